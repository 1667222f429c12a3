use Rattle.std.proofs.Common.{ℕ, ◌<◌, [], Contains, get_or}
use Rattle.re_check.proofs.row_sets.occurs.Given as goal

abbrev pub invariant-loop-row : goal.invariant-loop-row
invariant-loop-row l = (k : ℕ) → k < l.row-index → Contains (get_or l.rows k []) l.set → ⊥
