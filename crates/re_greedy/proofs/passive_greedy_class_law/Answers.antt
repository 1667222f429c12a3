use Rattle.re_greedy.proofs.GreedyClasses.{passive_greedy_class}
use Rattle.re_greedy.proofs.passive_greedy_class_law.Goals as goal

pub returns : goal.returns
returns c = passive_greedy_class
