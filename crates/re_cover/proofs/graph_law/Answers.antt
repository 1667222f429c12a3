use Rattle.re_cover.proofs.Outputs.{graph_law as law}
use Rattle.re_cover.proofs.graph_law.Goals as goal

pub returns : goal.returns
returns c = law
