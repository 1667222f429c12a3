use Rattle.std.proofs.Common.{◌≡◌, map, take}
use Rattle.re_closure_laws.specs.Lines.{labels_within}
use Rattle.re_closure.proofs.sets.all_within.Given as goal

abbrev pub invariant-loop-set : goal.invariant-loop-set
invariant-loop-set l = l.all.items ≡ map (labels_within l.sets) (take l.set-index l.sets)
