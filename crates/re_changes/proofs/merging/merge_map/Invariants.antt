use Rattle.std.proofs.Common.{◌≡◌, length, map}
use Rattle.re_labels.specs.Lists.{count_from}
use Rattle.re_changes.specs.Classes.{least_equal, strong_by}
use Rattle.re_changes.specs.Renumbering.{number_among}
use Rattle.re_changes.proofs.merging.merge_map.Given as goal

abbrev pub invariant-loop-label : goal.invariant-loop-label
invariant-loop-label l = l.images.items ≡ map (λ a. number_among l.stay (least_equal (strong_by l.covers) (length l.covers) a)) (count_from 0 l.label)
