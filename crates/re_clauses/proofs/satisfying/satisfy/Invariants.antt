use Rattle.std.proofs.Common.{◌≡◌}
use Rattle.re_clauses.proofs.satisfying.satisfy.Given as goal

abbrev pub invariant-loop : goal.invariant-loop
invariant-loop l = l.derivation ≡ l.clauses
