use Rattle.std.proofs.Common.{◌≡◌, ℕ, ◌<◌, false, eqb, length}
use Rattle.re_labels.specs.Rows.{set_at}
use Rattle.re_problem.proofs.images.first_empty.Given as goal

abbrev pub invariant-loop-label : goal.invariant-loop-label
invariant-loop-label l = (k : ℕ) → k < l.label → eqb (length (set_at l.sets k)) 0 ≡ false
