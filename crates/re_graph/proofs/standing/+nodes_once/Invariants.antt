use Rattle.std.proofs.Common.{length}
use Rattle.re_graph.proofs.standing.+nodes_once.Given as goal

abbrev pub decreases-nodes_once : goal.decreases-nodes_once
decreases-nodes_once l = length l.nodes.now
