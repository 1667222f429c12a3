use Rattle.std.proofs.Common.{length}
use Rattle.re_why.proofs.end_witness.+unordered_pair.Given as goal

abbrev pub decreases-unordered_pair : goal.decreases-unordered_pair
decreases-unordered_pair l = length l.pairs.now
