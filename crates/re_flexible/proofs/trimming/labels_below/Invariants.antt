use Rattle.std.proofs.Common.{◌<◌, ℕ}
use Rattle.std.specs.Prelude.{◌↔◌}
use Rattle.re_labels.specs.Sets.{IsIn}
use Rattle.re_flexible.proofs.trimming.labels_below.Given as goal

abbrev pub invariant-loop-label : goal.invariant-loop-label
invariant-loop-label l = (x : ℕ) → IsIn x l.set ↔ (x < l.label)
