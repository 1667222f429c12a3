use Rattle.std.proofs.Common.{◌≡◌}
use Rattle.problem_rows.proofs.tables.pairs.Given as goal

abbrev pub invariant-loop-pair : goal.invariant-loop-pair
invariant-loop-pair l = l.constraint.degree ≡ 2
