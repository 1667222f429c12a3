use Rattle.std.proofs.Common.{◌≡◌, take}
use Rattle.re_boxes.proofs.holding.without.Given as goal

abbrev pub invariant-loop-set : goal.invariant-loop-set
invariant-loop-set l = l.left.items ≡ take l.set-index l.sets
