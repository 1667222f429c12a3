use Rattle.std.proofs.Common.{◌≡◌, ℕ, Bool, false}
use Rattle.re_clauses.specs.Clauses.{Satisfies, satisfies}
use Rattle.re_clauses.specs.Implied.{AreFalse}
use Rattle.re_clauses.proofs.derivation.is_implied.Given as goal

abbrev pub invariant-loop-place : goal.invariant-loop-place
invariant-loop-place l =
    (goal.iterator-loop-place).can_next l.place-iterator
    × (goal.iterator-loop-place).is_finite l.place-iterator
    × ((values : ℕ → Bool) → Satisfies values l.given → satisfies values l.clause ≡ false → AreFalse values l.marks)
