use Rattle.std.proofs.Common.{length}
use Rattle.re_boxes.proofs.strength.Strength.+weakest.Given as goal

abbrev pub decreases-weakest : goal.decreases-weakest
decreases-weakest l = length l.set
