use Rattle.std.proofs.Common.{[], refl, sym}
use Rattle.re_check.proofs.RowSets.{none-occurs, row-holds}
use Rattle.re_check.proofs.Telling.{tells-false, tells-true, told, walk-more}
use Rattle.std.specs.Prelude.{Contains}
use Rattle.re_check.proofs.row_sets.occurs.Goals as goal
use Rattle.re_labels.proofs.Tests.{not_told}

pub returns-then-contains : goal.returns-then-contains
returns-then-contains c = tells-true _ refl (
  c.row-item.result,
  (c.loop-row.row-index, c.loop-row-test.true, sym c.row-item.is),
  told c.contains.result (row-holds c.row-item.result c.sets.result.now c.args.set c.contains.result c.sets.ensures.sets c.sets.ensures.row c.count-count.ensures.set c.contains.ensures.value) c.if-contains.true,
)

pub loop-row-preserved : goal.loop-row-preserved
loop-row-preserved c =
    walk-more (λ row. Contains row c.args.set → ⊥) c.args.rows.now [] c.loop-row.row-index c.row-item.result c.loop-row-test.true c.row-item.is c.loop-row.invariant
    (not_told c.contains.result (row-holds c.row-item.result c.sets.result.now c.args.set c.contains.result c.sets.ensures.sets c.sets.ensures.row c.count-count.ensures.set c.contains.ensures.value) c.if-contains.false)

pub returns : goal.returns
returns c = tells-false _ refl (none-occurs c.args.rows.now c.args.set c.loop-row.row-index c.loop-row-test.false c.loop-row.invariant)
