use Rattle.std.proofs.Common.{length}
use Rattle.re_why.proofs.row_witness.+bad_row.Given as goal

abbrev pub decreases-bad_row : goal.decreases-bad_row
decreases-bad_row l = length l.rows.now
