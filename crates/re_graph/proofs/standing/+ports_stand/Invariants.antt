use Rattle.re_graph.proofs.standing.+ports_stand.Given as goal

abbrev pub decreases-ports_stand : goal.decreases-ports_stand
decreases-ports_stand l = l.ports
