use Rattle.std.proofs.Common.{◌≡◌, ℕ, ◌+◌, ◌<◌, get_or, []}
use Rattle.std.specs.declared.cmp.Ordering.TheVariants.{Less}
use Rattle.re_labels.specs.Rows.{row_cmp}
use Rattle.re_check.proofs.judging.are_ascending.Given as goal

abbrev pub invariant-loop-place : goal.invariant-loop-place
invariant-loop-place l = (k : ℕ) → k + 1 < l.place → row_cmp (get_or l.rows k []) (get_or l.rows (k + 1) []) ≡ Less
