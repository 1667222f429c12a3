use Rattle.std.proofs.Common.{◌≡◌, map, take}
use Rattle.re_closure.specs.Sides.{labels_around}
use Rattle.re_closure.proofs.sets.all_around.Given as goal

abbrev pub invariant-loop-set : goal.invariant-loop-set
invariant-loop-set l = l.all.items ≡ map (labels_around l.sets) (take l.set-index l.sets)
