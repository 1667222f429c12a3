use Rattle.std.proofs.Common.{ℕ, ◌<◌, [], get_or}
use Rattle.re_check.specs.StepClauses.{OccursInRows}
use Rattle.re_problem.specs.Steps.{entry_sets}
use Rattle.re_check.proofs.row_sets.all_occur.Given as goal

abbrev pub invariant-loop-entry : goal.invariant-loop-entry
invariant-loop-entry l = (k : ℕ) → k < l.entry-index → OccursInRows l.rows (get_or (entry_sets l.entries) k [])
