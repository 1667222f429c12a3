use Rattle.re_greedy.proofs.GreedyClasses.{SolvableGiven-passive_greedy}
use Rattle.re_greedy.proofs.passive_greedy_law.Goals as goal

pub returns : goal.returns
returns c = SolvableGiven-passive_greedy
