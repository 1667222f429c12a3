use Rattle.std.proofs.Common.{length}
use Rattle.re_why.proofs.map_witness.+in_row.Given as goal

abbrev pub decreases-in_row : goal.decreases-in_row
decreases-in_row l = length l.sets.now
