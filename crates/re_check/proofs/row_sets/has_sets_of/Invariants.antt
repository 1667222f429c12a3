use Rattle.std.proofs.Common.{ℕ, ◌<◌, [], Contains, get_or}
use Rattle.re_problem.specs.Steps.{entry_sets}
use Rattle.re_check.proofs.row_sets.has_sets_of.Given as goal

abbrev pub invariant-loop-set : goal.invariant-loop-set
invariant-loop-set l = (k : ℕ) → k < l.set-index → Contains (entry_sets l.entries) (get_or l.row k [])
