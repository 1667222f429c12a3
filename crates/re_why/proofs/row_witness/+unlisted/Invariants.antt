use Rattle.std.proofs.Common.{length}
use Rattle.re_why.proofs.row_witness.+unlisted.Given as goal

abbrev pub decreases-unlisted : goal.decreases-unlisted
decreases-unlisted l = length l.all.now
