use Rattle.re_cover.proofs.GivenOutputs.{given_graph_law as law}
use Rattle.re_cover.proofs.given_graph_law.Goals as goal

pub returns : goal.returns
returns c = law
