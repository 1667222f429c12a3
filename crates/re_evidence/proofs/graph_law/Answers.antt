use Rattle.re_evidence.proofs.VerdictRounds.{graph_means}
use Rattle.re_evidence.proofs.graph_law.Goals as goal

pub returns : goal.returns
returns c = graph_means
