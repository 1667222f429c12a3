use Rattle.std.proofs.Common.{[], map, subst, sym}
use Rattle.std.specs.Prelude.{Contains}
use Rattle.re_check.proofs.Telling.{told, walk-done, walk-fails, walk-more}
use Rattle.re_check.proofs.RowSets.{row-has-sets}
use Rattle.re_problem.specs.Steps.{label_of}
use Rattle.re_labels.specs.Constraints.{Has}
use Rattle.re_check.proofs.row_images.keeps_rows.Goals as goal
use Rattle.re_labels.proofs.Tests.{not_told}

pub image-requires-clause-held : goal.image-requires-clause-held
image-requires-clause-held c = row-has-sets c.args.rows.now c.args.entries.now c.requires.sets c.row-item.result (c.loop-row.row-index, c.loop-row-test.true, sym c.row-item.is)

pub returns-then-not-contains : goal.returns-then-not-contains
returns-then-not-contains c =
    walk-fails (λ row. Has c.args.to.now (map (label_of c.args.entries.now) row)) c.args.rows.now c.loop-row.row-index c.row-item.result c.loop-row-test.true c.row-item.is
    (λ held. not_told c.contains.result c.contains.ensures c.if-not-contains.true (subst (Contains c.args.to.now.configs) (sym c.image.ensures) held)) (λ kept. kept)

pub loop-row-preserved : goal.loop-row-preserved
loop-row-preserved c =
    walk-more (λ row. Has c.args.to.now (map (label_of c.args.entries.now) row)) c.args.rows.now [] c.loop-row.row-index c.row-item.result c.loop-row-test.true c.row-item.is c.loop-row.invariant
    (subst (Contains c.args.to.now.configs) c.image.ensures (told c.contains.result c.contains.ensures c.if-not-contains.false))

pub returns : goal.returns
returns c = walk-done (λ row. Has c.args.to.now (map (label_of c.args.entries.now) row)) c.args.rows.now [] c.loop-row.row-index c.loop-row-test.false c.loop-row.invariant (λ each. each)
