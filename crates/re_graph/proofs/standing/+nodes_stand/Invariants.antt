use Rattle.re_graph.proofs.standing.+nodes_stand.Given as goal

abbrev pub decreases-nodes_stand : goal.decreases-nodes_stand
decreases-nodes_stand l = l.nodes
