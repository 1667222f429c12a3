use Rattle.std.proofs.Common.{◌≡◌}
use Rattle.problem_rows.proofs.maximal_rows.sums.Given as goal

abbrev pub invariant-loop-i : goal.invariant-loop-i
invariant-loop-i l = l.constraint.degree ≡ 4

abbrev pub invariant-loop-j : goal.invariant-loop-j
invariant-loop-j l = l.constraint.degree ≡ 4

abbrev pub invariant-loop-k : goal.invariant-loop-k
invariant-loop-k l = l.constraint.degree ≡ 4
