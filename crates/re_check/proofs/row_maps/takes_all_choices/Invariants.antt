use Rattle.std.proofs.Common.{ℕ, ◌<◌, [], List, map, get_or}
use Rattle.re_labels.specs.Rows.{IsChoice}
use Rattle.re_check.specs.LabelsOver.{labels_over}
use Rattle.re_check.specs.RowEntries.{image_entries}
use Rattle.re_labels.specs.Constraints.{Has}
use Rattle.re_check.proofs.row_maps.takes_all_choices.Given as goal

abbrev pub invariant-loop-place : goal.invariant-loop-place
invariant-loop-place l = (k : ℕ) → k < l.place → (labels : List ℕ) → IsChoice labels (map (labels_over (image_entries l.rows l.images)) (get_or l.from.configs k [])) → Has l.to labels
