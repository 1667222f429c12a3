use Rattle.std.proofs.Common.{length}
use Rattle.re_graph_words.proofs.lines.+nodes_in.Given as goal

abbrev pub decreases-nodes_in : goal.decreases-nodes_in
decreases-nodes_in l = length l.passive.now
