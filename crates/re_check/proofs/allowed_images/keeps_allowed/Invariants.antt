use Rattle.std.proofs.Common.{ℕ, ◌<◌, [], List, map, get_or}
use Rattle.re_labels.specs.Rows.{IsChoice}
use Rattle.re_check.specs.LabelsOver.{labels_over}
use Rattle.re_labels.specs.Constraints.{Has}
use Rattle.re_check.proofs.allowed_images.keeps_allowed.Given as goal

abbrev pub invariant-loop-place : goal.invariant-loop-place
invariant-loop-place l = (k : ℕ) → k < l.place → (labels : List ℕ) → IsChoice labels (map (labels_over l.entries) (get_or l.from.configs k [])) → Has l.to labels
