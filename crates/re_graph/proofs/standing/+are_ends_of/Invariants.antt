use Rattle.std.proofs.Common.{length}
use Rattle.re_graph.proofs.standing.+are_ends_of.Given as goal

abbrev pub decreases-are_ends_of : goal.decreases-are_ends_of
decreases-are_ends_of l = length l.ends.now
