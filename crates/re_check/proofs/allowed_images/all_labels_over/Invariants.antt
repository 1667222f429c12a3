use Rattle.std.proofs.Common.{◌≡◌, ℕ, ◌<◌, [], length, get_or}
use Rattle.re_check.specs.LabelsOver.{labels_over}
use Rattle.re_check.proofs.allowed_images.all_labels_over.Given as goal
use Rattle.re_labels.specs.declared.TheConstants.{MAX_LABELS}

abbrev pub invariant-loop-label : goal.invariant-loop-label
invariant-loop-label l = record {
  count : length l.over ≡ MAX_LABELS;
  over : (k : ℕ) → k < l.label → get_or l.over k [] ≡ labels_over l.entries k;
}
