use Rattle.re_greedy.proofs.GreedyClasses.{greedy_order}
use Rattle.re_greedy.proofs.greedy_order_law.Goals as goal

pub returns : goal.returns
returns c = greedy_order
