use Rattle.std.proofs.Common.{subst}
use Rattle.re_cover.specs.Graphs.{IsGraph}
use Rattle.re_graph.proofs.Building.{is_graph-graph}
use Rattle.re_graph.proofs.graph.Graph.passive.Goals as goal

pub returns-clause-graph : goal.returns-clause-graph
returns-clause-graph c = subst IsGraph c.self.view_is (is_graph-graph _ c.self.invariant)
