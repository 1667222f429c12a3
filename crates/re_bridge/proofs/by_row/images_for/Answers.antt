use Rattle.std.proofs.Common.{sym}
use Rattle.re_changes.proofs.Counted.{pushed}
use Rattle.re_bridge.proofs.RowTests.{image-is}
use Rattle.re_bridge.specs.Bridges.{image_of}
use Rattle.re_bridge.proofs.by_row.images_for.Goals as goal

pub loop-row-preserved : goal.loop-row-preserved
loop-row-preserved c =
    pushed (image_of c.args.degree c.args.labels.now) c.loop-row.row c.in-Some.image c.in_ok-push-in-Some.ensures.items c.loop-row.invariant (image-is c.args.degree c.args.labels.now c.loop-row.row c.in-Some.image (sym c.in-Some.ensures))
