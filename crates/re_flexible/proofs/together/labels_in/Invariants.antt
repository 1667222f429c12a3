use Rattle.std.proofs.Common.{◌<◌, ℕ}
use Rattle.std.specs.Prelude.{◌↔◌}
use Rattle.re_labels.specs.Sets.{IsIn}
use Rattle.re_flexible.proofs.together.labels_in.Given as goal
use Rattle.re_flexible.specs.Relations.{Relates}

abbrev pub invariant-loop-label : goal.invariant-loop-label
invariant-loop-label l = (x : ℕ) → IsIn x l.labels ↔ ((x < l.label) × Relates l.sets x x)
