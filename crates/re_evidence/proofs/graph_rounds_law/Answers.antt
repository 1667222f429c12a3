use Rattle.re_evidence.proofs.Graphs.{graph_rounds}
use Rattle.re_evidence.proofs.graph_rounds_law.Goals as goal

pub returns : goal.returns
returns c = graph_rounds
