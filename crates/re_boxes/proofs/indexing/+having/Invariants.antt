use Rattle.std.proofs.Common.{length}
use Rattle.re_boxes.proofs.indexing.+having.Given as goal

abbrev pub decreases-having : goal.decreases-having
decreases-having l = length l.labels
