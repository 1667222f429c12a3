use Rattle.std.proofs.Common.{[]}
use Rattle.re_check.proofs.RowSets.{HasSetsOf, rows-all}
use Rattle.re_check.proofs.Telling.{told, walk-done, walk-more}
use Rattle.re_check.proofs.row_sets.has_all_sets.Goals as goal

pub loop-row-preserved : goal.loop-row-preserved
loop-row-preserved c =
    walk-more (HasSetsOf c.args.entries.now) c.args.rows.now [] c.loop-row.row-index c.row-item.result c.loop-row-test.true c.row-item.is c.loop-row.invariant
    (told c.has_sets_of.result c.has_sets_of.ensures c.if-not-has_sets_of.false)

pub returns : goal.returns
returns c = walk-done (HasSetsOf c.args.entries.now) c.args.rows.now [] c.loop-row.row-index c.loop-row-test.false c.loop-row.invariant (λ each. rows-all c.args.entries.now c.args.rows.now each)
