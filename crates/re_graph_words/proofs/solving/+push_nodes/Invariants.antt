use Rattle.re_graph_words.proofs.solving.+push_nodes.Given as goal

abbrev pub decreases-push_nodes : goal.decreases-push_nodes
decreases-push_nodes l = l.nodes
