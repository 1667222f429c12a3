use Rattle.std.proofs.Common.{◌≡◌, ℕ, ◌<◌, false, not}
use Rattle.re_why.specs.Finding.{names_label}
use Rattle.re_why.proofs.upper_witness.missing_label.Given as goal

abbrev pub invariant-loop-label : goal.invariant-loop-label
invariant-loop-label l = (k : ℕ) → k < l.label → not (names_label l.entries k) ≡ false
