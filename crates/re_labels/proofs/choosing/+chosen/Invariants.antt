use Rattle.std.proofs.Common.{length}
use Rattle.re_labels.proofs.choosing.+chosen.Given as goal

abbrev pub decreases-chosen : goal.decreases-chosen
decreases-chosen l = length l.sets.now
