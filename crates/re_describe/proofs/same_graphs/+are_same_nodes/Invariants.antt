use Rattle.std.proofs.Common.{length}
use Rattle.re_describe.proofs.same_graphs.+are_same_nodes.Given as goal

abbrev pub decreases-are_same_nodes : goal.decreases-are_same_nodes
decreases-are_same_nodes l = length l.passive.now
