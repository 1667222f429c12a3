use Rattle.std.proofs.Common.{length}
use Rattle.re_why.proofs.map_witness.+lost_by_set.Given as goal

abbrev pub decreases-lost_by_set : goal.decreases-lost_by_set
decreases-lost_by_set l = length l.rows.now
