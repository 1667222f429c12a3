-- Values that satisfy clauses, one after another.
use Rattle.std.proofs.Common.{◌≡◌, ◌<◌, ℕ, zero, suc, Bool, true, List, [], ◌∷◌, ◌++◌, get_or, length, arith}
use Rattle.re_clauses.specs.Clauses.{Satisfies, satisfies}

-- one of them
pub satisfied_at : (values : ℕ → Bool) (clauses : List (List ℕ)) (i : ℕ) → i < length clauses → Satisfies values clauses → satisfies values (get_or clauses i []) ≡ true
satisfied_at values [] i some are = absurd (omega (arith, some))
satisfied_at values (clause ∷ clauses) zero some are = are.0
satisfied_at values (clause ∷ clauses) (suc i) some are = satisfied_at values clauses i (omega (arith, some)) are.1

-- one more behind them, and the other way round
pub satisfied_behind : (values : ℕ → Bool) (clauses : List (List ℕ)) (clause : List ℕ) → Satisfies values clauses → satisfies values clause ≡ true → Satisfies values (clauses ++ clause ∷ [])
satisfied_behind values [] clause are is = (is, tt)
satisfied_behind values (first ∷ clauses) clause are is = (are.0, satisfied_behind values clauses clause are.1 is)
