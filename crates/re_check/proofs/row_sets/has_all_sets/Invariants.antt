use Rattle.std.proofs.Common.{ℕ, ◌<◌, [], List, Contains, get_or}
use Rattle.re_problem.specs.Steps.{entry_sets}
use Rattle.re_check.proofs.row_sets.has_all_sets.Given as goal

abbrev pub invariant-loop-row : goal.invariant-loop-row
invariant-loop-row l = (k : ℕ) → k < l.row-index → (set : List ℕ) → Contains (get_or l.rows k []) set → Contains (entry_sets l.entries) set
