use Rattle.std.proofs.Common.{length}
use Rattle.re_why.proofs.map_witness.+lost_by_row.Given as goal

abbrev pub decreases-lost_by_row : goal.decreases-lost_by_row
decreases-lost_by_row l = length l.images.now
