use Rattle.std.proofs.Common.{length}
use Rattle.re_why.proofs.map_witness.+missing_set.Given as goal

abbrev pub decreases-missing_set : goal.decreases-missing_set
decreases-missing_set l = length l.rows.now
