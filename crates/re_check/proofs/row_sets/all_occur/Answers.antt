use Rattle.std.proofs.Common.{below_more, get_or, [], refl, subst, sym}
use Rattle.re_check.proofs.RowSets.{entries-occur, read-set}
use Rattle.re_check.proofs.Telling.{tells-true, told}
use Rattle.re_check.specs.StepClauses.{OccursInRows}
use Rattle.re_problem.specs.Steps.{entry_sets}
use Rattle.re_check.proofs.row_sets.all_occur.Goals as goal

pub loop-entry-preserved : goal.loop-entry-preserved
loop-entry-preserved c =
    below_more (λ k. OccursInRows c.args.rows.now (get_or (entry_sets c.args.entries.now) k [])) c.loop-entry.entry-index c.loop-entry.invariant
    (subst (OccursInRows c.args.rows.now) (sym (read-set c.args.entries.now c.loop-entry.entry-index c.entry-item.result c.entry.inside.set c.entry.inside.label c.loop-entry-test.true c.entry-item.is c.entry.view_is))
    (told c.occurs.result c.occurs.ensures c.if-not-occurs.false))

pub returns : goal.returns
returns c = tells-true _ refl (entries-occur c.args.entries.now c.args.rows.now c.loop-entry.entry-index c.loop-entry-test.false c.loop-entry.invariant)
