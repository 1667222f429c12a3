use Rattle.std.proofs.Common.{[]}
use Rattle.re_check.proofs.Telling.{told, walk-done, walk-fails, walk-more}
use Rattle.re_labels.specs.Constraints.{Has}
use Rattle.re_check.proofs.row_maps.keeps_images.Goals as goal
use Rattle.re_labels.proofs.Tests.{not_told}

pub returns-then-not-is_image : goal.returns-then-not-is_image
returns-then-not-is_image c =
    walk-fails (Has c.args.to.now) c.args.images.now c.loop-image.image-index c.image-item.result c.loop-image-test.true c.image-item.is (not_told c.is_image.result c.is_image.ensures c.if-not-is_image.true) (λ kept. kept)

pub loop-image-preserved : goal.loop-image-preserved
loop-image-preserved c =
    walk-more (Has c.args.to.now) c.args.images.now [] c.loop-image.image-index c.image-item.result c.loop-image-test.true c.image-item.is c.loop-image.invariant (told c.is_image.result c.is_image.ensures c.if-not-is_image.false)

pub returns : goal.returns
returns c = walk-done (Has c.args.to.now) c.args.images.now [] c.loop-image.image-index c.loop-image-test.false c.loop-image.invariant (λ each. each)
