use Rattle.std.proofs.Common.{◌-◌, length}
use Rattle.re_boxes.proofs.strength_choosing.+raised.Given as goal

abbrev pub decreases-raised : goal.decreases-raised
decreases-raised l = length l.sets.now - l.place
