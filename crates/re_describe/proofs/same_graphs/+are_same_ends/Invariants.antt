use Rattle.std.proofs.Common.{length}
use Rattle.re_describe.proofs.same_graphs.+are_same_ends.Given as goal

abbrev pub decreases-are_same_ends : goal.decreases-are_same_ends
decreases-are_same_ends l = length l.ends.now
