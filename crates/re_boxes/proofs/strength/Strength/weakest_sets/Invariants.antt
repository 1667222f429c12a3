use Rattle.std.proofs.Common.{◌≡◌, take, length}
use Rattle.std.specs.List.{AllByRecursion, AllZip}
use Rattle.re_labels.specs.Sets.{IsLabelSet}
use Rattle.re_boxes.specs.HeldStrength.{IsWeakest, ups_in}
use Rattle.re_boxes.proofs.strength.Strength.weakest_sets.Given as goal

abbrev pub invariant-loop-set : goal.invariant-loop-set
invariant-loop-set l = record {
  weakest : AllZip (IsWeakest (ups_in l.self.ups.items)) l.weakest.items (take l.set-index l.sets);
  below : AllByRecursion (IsLabelSet l.self.labels) l.weakest.items;
  count : length l.weakest.items ≡ l.set-index;
}
