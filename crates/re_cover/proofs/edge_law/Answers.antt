use Rattle.re_cover.proofs.Outputs.{edge_law as law}
use Rattle.re_cover.proofs.edge_law.Goals as goal

pub returns : goal.returns
returns c = law
