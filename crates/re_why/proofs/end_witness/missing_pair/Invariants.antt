use Rattle.std.proofs.Common.{◌≡◌, ℕ, ◌<◌, false, not}
use Rattle.re_why.specs.Finding.{names_first}
use Rattle.re_why.proofs.end_witness.missing_pair.Given as goal

abbrev pub invariant-loop-label : goal.invariant-loop-label
invariant-loop-label l = (k : ℕ) → k < l.label → not (names_first l.pairs k) ≡ false
