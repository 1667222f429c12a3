use Rattle.std.proofs.Common.{◌≡◌, ℕ, ◌<◌, List, get_or, []}
use Rattle.std.specs.Prelude.{Contains}
use Rattle.re_labels.specs.Rows.{Dominates}
use Rattle.re_check.proofs.judging.are_apart.Given as goal

abbrev pub invariant-loop-row : goal.invariant-loop-row
invariant-loop-row l = (k : ℕ) → k < l.row-index → (other : List (List ℕ)) → Contains l.rows other → Dominates (get_or l.rows k []) other → get_or l.rows k [] ≡ other
