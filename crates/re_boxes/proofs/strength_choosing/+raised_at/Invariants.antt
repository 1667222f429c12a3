use Rattle.std.proofs.Common.{length}
use Rattle.re_boxes.proofs.strength_choosing.+raised_at.Given as goal

abbrev pub decreases-raised_at : goal.decreases-raised_at
decreases-raised_at l = length l.candidates
