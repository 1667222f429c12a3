use Rattle.std.proofs.Common.{◌≡◌, map, take}
use Rattle.std.specs.List.{AllByRecursion}
use Rattle.re_labels.specs.Sets.{IsLabelSet}
use Rattle.re_boxes.specs.HeldStrength.{ups_in}
use Rattle.re_boxes.proofs.strength.Strength.up_sets.Given as goal

abbrev pub invariant-loop-label : goal.invariant-loop-label
invariant-loop-label l = record {
  sets : l.sets.items ≡ map (ups_in l.self.ups.items) (take l.label-index l.config);
  below : AllByRecursion (IsLabelSet l.self.labels) l.sets.items;
}
