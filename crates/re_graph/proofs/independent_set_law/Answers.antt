use Rattle.re_graph.proofs.Worked.{independent_set_law as law}
use Rattle.re_graph.proofs.independent_set_law.Goals as goal

pub returns : goal.returns
returns c = law
