use Rattle.std.proofs.Common.{length}
use Rattle.re_graph_words.proofs.lines.+nodes_on.Given as goal

abbrev pub decreases-nodes_on : goal.decreases-nodes_on
decreases-nodes_on l = length l.ends.now
