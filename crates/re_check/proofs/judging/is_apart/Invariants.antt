use Rattle.std.proofs.Common.{◌≡◌, ℕ, ◌<◌, get_or, []}
use Rattle.re_labels.specs.Rows.{Dominates}
use Rattle.re_check.proofs.judging.is_apart.Given as goal

abbrev pub invariant-loop-other : goal.invariant-loop-other
invariant-loop-other l = (k : ℕ) → k < l.other-index → Dominates l.row (get_or l.rows k []) → l.row ≡ get_or l.rows k []
