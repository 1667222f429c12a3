use Rattle.std.proofs.Common.{length}
use Rattle.re_boxes.proofs.choosing.+are_all_bad.Given as goal

abbrev pub decreases-are_all_bad : goal.decreases-are_all_bad
decreases-are_all_bad l = length l.labels
