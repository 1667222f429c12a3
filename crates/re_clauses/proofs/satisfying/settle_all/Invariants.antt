use Rattle.std.proofs.Common.{◌≡◌}
use Rattle.re_clauses.proofs.satisfying.settle_all.Given as goal

abbrev pub invariant-loop-at : goal.invariant-loop-at
invariant-loop-at l = l.derivation ≡ l.initial.derivation
