use Rattle.re_judging.proofs.graph_parts.on_graph.Goals as goal

pub returns-then-is_line-clause-means : goal.returns-then-is_line-clause-means
returns-then-is_line-clause-means c = (c.names-names.ensures.problem.problem, λ T solvable. c.requires (c.is_line.ensures.0 c.if-is_line.true) T solvable)
