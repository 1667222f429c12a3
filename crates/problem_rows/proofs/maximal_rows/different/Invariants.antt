use Rattle.std.proofs.Common.{◌≡◌}
use Rattle.problem_rows.proofs.maximal_rows.different.Given as goal

abbrev pub invariant-loop-label : goal.invariant-loop-label
invariant-loop-label l = l.constraint.degree ≡ 2

abbrev pub invariant-loop-other : goal.invariant-loop-other
invariant-loop-other l = l.constraint.degree ≡ 2
