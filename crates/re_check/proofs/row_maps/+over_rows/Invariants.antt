use Rattle.std.proofs.Common.{length}
use Rattle.re_check.proofs.row_maps.+over_rows.Given as goal

abbrev pub decreases-over_rows : goal.decreases-over_rows
decreases-over_rows l = length l.rows.now
