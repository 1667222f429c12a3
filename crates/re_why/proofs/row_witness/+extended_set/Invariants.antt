use Rattle.std.proofs.Common.{length}
use Rattle.re_why.proofs.row_witness.+extended_set.Given as goal

abbrev pub decreases-extended_set : goal.decreases-extended_set
decreases-extended_set l = length l.others.now
