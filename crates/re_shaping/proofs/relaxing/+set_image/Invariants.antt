use Rattle.std.proofs.Common.{length}
use Rattle.re_shaping.proofs.relaxing.+set_image.Given as goal

abbrev pub decreases-set_image : goal.decreases-set_image
decreases-set_image l = length l.set
