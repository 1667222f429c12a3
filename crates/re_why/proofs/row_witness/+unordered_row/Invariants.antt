use Rattle.std.proofs.Common.{length}
use Rattle.re_why.proofs.row_witness.+unordered_row.Given as goal

abbrev pub decreases-unordered_row : goal.decreases-unordered_row
decreases-unordered_row l = length l.rows.now
