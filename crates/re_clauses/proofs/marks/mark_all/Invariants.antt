use Rattle.std.proofs.Common.{◌≡◌, ℕ, Bool, false}
use Rattle.re_clauses.specs.Clauses.{satisfies}
use Rattle.re_clauses.specs.Implied.{AreFalse}
use Rattle.re_clauses.proofs.marks.mark_all.Given as goal

abbrev pub invariant-loop-literal : goal.invariant-loop-literal
invariant-loop-literal l = (values : ℕ → Bool) → AreFalse values l.initial.marks → satisfies values l.clause ≡ false → AreFalse values l.marks
