use Rattle.std.proofs.Common.{length}
use Rattle.re_boxes.proofs.holding.+hold.Given as goal

abbrev pub decreases-hold : goal.decreases-hold
decreases-hold l = length l.sets.now
