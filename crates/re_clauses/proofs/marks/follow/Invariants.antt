use Rattle.std.proofs.Common.{◌≡◌, ℕ, Bool, take}
use Rattle.re_clauses.specs.Clauses.{satisfies}
use Rattle.re_clauses.specs.Implied.{AreFalse}
use Rattle.re_clauses.proofs.Marking.{left_holds}
use Rattle.re_clauses.proofs.marks.follow.Given as goal

abbrev pub invariant-loop-literal : goal.invariant-loop-literal
invariant-loop-literal l = (values : ℕ → Bool) → AreFalse values l.marks → satisfies values (take l.literal-index l.clause) ≡ left_holds values l.left
