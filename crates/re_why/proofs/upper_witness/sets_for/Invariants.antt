use Rattle.std.proofs.Common.{◌≡◌, map, take}
use Rattle.re_problem.specs.Steps.{set_for}
use Rattle.re_why.proofs.upper_witness.sets_for.Given as goal

abbrev pub invariant-loop-label : goal.invariant-loop-label
invariant-loop-label l = l.sets.items ≡ map (set_for l.entries) (take l.label-index l.label-items)
