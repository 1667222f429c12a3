use Rattle.std.proofs.Common.{length}
use Rattle.re_boxes.proofs.indexing.+holder.Given as goal

abbrev pub decreases-holder : goal.decreases-holder
decreases-holder l = length l.sets.now
