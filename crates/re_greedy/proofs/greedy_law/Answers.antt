use Rattle.re_greedy.proofs.GreedySolved.{SolvableGiven-greedy}
use Rattle.re_greedy.proofs.greedy_law.Goals as goal

pub returns : goal.returns
returns c = SolvableGiven-greedy
