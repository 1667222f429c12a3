use Rattle.std.proofs.Common.{length}
use Rattle.re_check.proofs.row_maps.+over_row.Given as goal

abbrev pub decreases-over_row : goal.decreases-over_row
decreases-over_row l = length l.sets.now
