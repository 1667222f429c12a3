use Rattle.std.proofs.Common.{length}
use Rattle.re_boxes.proofs.strength_choosing.+is_first_bad.Given as goal

abbrev pub decreases-is_first_bad : goal.decreases-is_first_bad
decreases-is_first_bad l = length l.sets.now
