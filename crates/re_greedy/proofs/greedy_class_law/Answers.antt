use Rattle.re_greedy.proofs.GreedyClasses.{greedy_class}
use Rattle.re_greedy.proofs.greedy_class_law.Goals as goal

pub returns : goal.returns
returns c = greedy_class
