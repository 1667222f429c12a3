use Rattle.std.proofs.Common.{◌≡◌, take}
use Rattle.re_check.specs.LabelsOver.{labels_over}
use Rattle.re_check.proofs.allowed_images.labels_over.Given as goal

abbrev pub invariant-loop-entry : goal.invariant-loop-entry
invariant-loop-entry l = l.over ≡ labels_over (take l.entry-index l.entries) l.label
