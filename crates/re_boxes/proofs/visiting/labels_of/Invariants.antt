use Rattle.std.proofs.Common.{ℕ, take}
use Rattle.std.specs.Prelude.{◌↔◌}
use Rattle.re_labels.specs.Sets.{IsIn}
use Rattle.re_boxes.proofs.NextLabels.{HasLabel}
use Rattle.re_boxes.proofs.visiting.labels_of.Given as goal

abbrev pub invariant-loop-candidate : goal.invariant-loop-candidate
invariant-loop-candidate l = (x : ℕ) → IsIn x l.set ↔ HasLabel (take l.candidate-index l.candidates) x
