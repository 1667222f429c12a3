use Rattle.re_graph.proofs.passing.+are_active.Given as goal

abbrev pub decreases-are_active : goal.decreases-are_active
decreases-are_active l = l.nodes
