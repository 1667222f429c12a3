use Rattle.std.proofs.Common.{Bool, List, subst, sym}
use Rattle.re_clauses.specs.Clauses.{holds}
use Rattle.re_clauses.specs.Implied.{AreFalse}
use Rattle.re_clauses.proofs.Marking.{marked, none_at}
use Rattle.re_clauses.proofs.marks.mark_all.Goals as goal

pub loop-literal-preserved : goal.loop-literal-preserved
loop-literal-preserved c = λ values are none.
    subst (λ (m : List Bool). AreFalse values m) (sym c.mark.ensures)
    (marked values c.loop-literal.marks _ (c.loop-literal.invariant values are none) (none_at (holds values) c.args.clause.now c.loop-literal.literal-index c.loop-literal-test.true none))
