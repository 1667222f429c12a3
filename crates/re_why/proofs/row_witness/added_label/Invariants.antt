use Rattle.std.proofs.Common.{◌≡◌, ℕ, ◌<◌, false}
use Rattle.re_why.specs.Finding.{can_add}
use Rattle.re_why.proofs.row_witness.added_label.Given as goal

abbrev pub invariant-loop-label : goal.invariant-loop-label
invariant-loop-label l = (k : ℕ) → k < l.label → can_add l.passive l.sets l.place k ≡ false
