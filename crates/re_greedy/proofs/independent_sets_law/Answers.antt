use Rattle.re_greedy.proofs.GreedyExamples.{independent_below}
use Rattle.re_greedy.proofs.independent_sets_law.Goals as goal

pub returns : goal.returns
returns c = independent_below
