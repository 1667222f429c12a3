use Rattle.std.proofs.Common.{length}
use Rattle.re_labels.proofs.listing.+following.Given as goal

abbrev pub decreases-following : goal.decreases-following
decreases-following l = length l.numbers.now
