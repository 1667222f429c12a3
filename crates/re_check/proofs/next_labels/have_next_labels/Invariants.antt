use Rattle.std.proofs.Common.{ℕ, ◌<◌}
use Rattle.re_check.proofs.NextLabels.{IsNextEntry}
use Rattle.re_check.proofs.next_labels.have_next_labels.Given as goal

abbrev pub invariant-loop-label : goal.invariant-loop-label
invariant-loop-label l = (k : ℕ) → k < l.label → IsNextEntry l.entries k
