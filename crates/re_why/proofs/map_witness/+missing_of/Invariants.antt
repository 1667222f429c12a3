use Rattle.std.proofs.Common.{length}
use Rattle.re_why.proofs.map_witness.+missing_of.Given as goal

abbrev pub decreases-missing_of : goal.decreases-missing_of
decreases-missing_of l = length l.sets.now
