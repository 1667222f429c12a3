use Rattle.std.proofs.Common.{◌≡◌, map, take}
use Rattle.std.specs.List.{AllByRecursion}
use Rattle.re_greedy.proofs.answering.allows_at.Given as goal
use Rattle.re_labels.specs.Rows.{set_at}
use Rattle.re_labels.specs.Sets.{IsLabelSet}
use Rattle.re_labels.specs.declared.TheConstants.{MAX_LABELS}

abbrev pub invariant-loop-place : goal.invariant-loop-place
invariant-loop-place l = record {
  items : l.sets.items ≡ map (set_at l.joining) (take l.place-index l.places);
  are : AllByRecursion (IsLabelSet MAX_LABELS) l.sets.items;
}
