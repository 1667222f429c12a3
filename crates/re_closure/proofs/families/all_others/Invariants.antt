use Rattle.std.proofs.Common.{◌≡◌, map, take}
use Rattle.re_closure_laws.specs.Lines.{others}
use Rattle.re_closure.proofs.families.all_others.Given as goal

abbrev pub invariant-loop-set : goal.invariant-loop-set
invariant-loop-set l = l.left.items ≡ map (others l.labels) (take l.set-index l.sets)
