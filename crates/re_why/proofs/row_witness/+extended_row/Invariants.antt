use Rattle.std.proofs.Common.{length}
use Rattle.re_why.proofs.row_witness.+extended_row.Given as goal

abbrev pub decreases-extended_row : goal.decreases-extended_row
decreases-extended_row l = length l.rows.now
