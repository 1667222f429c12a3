use Rattle.std.proofs.Common.{length}
use Rattle.re_describe.proofs.steps.+push_images.Given as goal

abbrev pub decreases-push_images : goal.decreases-push_images
decreases-push_images l = length l.rows.now
