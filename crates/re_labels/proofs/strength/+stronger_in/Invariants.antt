use Rattle.std.proofs.Common.{length}
use Rattle.re_labels.proofs.strength.+stronger_in.Given as goal

abbrev pub decreases-stronger_in : goal.decreases-stronger_in
decreases-stronger_in l = length l.labels
