use Rattle.re_check.proofs.RowSets.{place-absent, place-held, row-done, row-fails, row-more}
use Rattle.re_check.proofs.row_sets.has_sets_of.Goals as goal

pub returns-then-is_none : goal.returns-then-is_none
returns-then-is_none c =
    row-fails c.args.entries.now c.args.row.now c.sets-set-items.result.now c.loop-set.set-index c.set-item.result c.sets-set-items.ensures.sets c.loop-set-test.true c.set-item.is
    (place-absent c.args.entries.now c.set-item.result c.place_for.result c.is_none.result c.place_for.ensures c.is_none.ensures c.if-is_none.true)

pub loop-set-preserved : goal.loop-set-preserved
loop-set-preserved c =
    row-more c.args.entries.now c.args.row.now c.sets-set-items.result.now c.loop-set.set-index c.set-item.result c.sets-set-items.ensures.sets c.loop-set-test.true c.set-item.is c.loop-set.invariant
    (place-held c.args.entries.now c.set-item.result c.place_for.result c.is_none.result c.place_for.ensures c.is_none.ensures c.if-is_none.false)

pub returns : goal.returns
returns c = row-done c.args.entries.now c.args.row.now c.sets-set-items.result.now c.loop-set.set-index c.sets-set-items.ensures.sets c.loop-set-test.false c.loop-set.invariant
