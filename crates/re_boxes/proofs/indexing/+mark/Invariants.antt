use Rattle.std.proofs.Common.{length}
use Rattle.re_boxes.proofs.indexing.+mark.Given as goal

abbrev pub decreases-mark : goal.decreases-mark
decreases-mark l = length l.labels
