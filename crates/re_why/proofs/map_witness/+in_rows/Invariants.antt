use Rattle.std.proofs.Common.{length}
use Rattle.re_why.proofs.map_witness.+in_rows.Given as goal

abbrev pub decreases-in_rows : goal.decreases-in_rows
decreases-in_rows l = length l.rows.now
