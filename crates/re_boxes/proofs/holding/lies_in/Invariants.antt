use Rattle.std.proofs.Common.{◌≡◌, false, take}
use Rattle.std.specs.List.{list_any}
use Rattle.re_labels.specs.Sets.{within}
use Rattle.re_boxes.proofs.holding.lies_in.Given as goal

abbrev pub invariant-loop-other : goal.invariant-loop-other
invariant-loop-other l = list_any (within l.set) (take l.other-index l.others) ≡ false
