use Rattle.std.proofs.Common.{◌≡◌}
use Rattle.problem_rows.proofs.tables.triples.Given as goal

abbrev pub invariant-loop-triple : goal.invariant-loop-triple
invariant-loop-triple l = l.constraint.degree ≡ 3
