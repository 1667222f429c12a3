use Rattle.re_graph.proofs.Meaning.{passes_law}
use Rattle.re_graph.proofs.solution_walk_law.Goals as goal

pub returns : goal.returns
returns c = passes_law
