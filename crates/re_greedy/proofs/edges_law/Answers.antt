use Rattle.re_greedy.proofs.GreedyExamples.{edges_below}
use Rattle.re_greedy.proofs.edges_law.Goals as goal

pub returns : goal.returns
returns c = edges_below
