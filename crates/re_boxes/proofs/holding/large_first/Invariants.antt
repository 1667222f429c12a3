use Rattle.std.proofs.Common.{◌≡◌, length, take}
use Rattle.re_labels.specs.Rearranging.{Rearranged}
use Rattle.re_boxes.proofs.holding.large_first.Given as goal

abbrev pub invariant-loop-set : goal.invariant-loop-set
invariant-loop-set l = record {
  same : Rearranged (take l.set-index l.sets) l.done.items;
  count : length l.done.items ≡ l.set-index;
}
