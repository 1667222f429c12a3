use Rattle.re_greedy.proofs.GreedyTest.{greedy_test}
use Rattle.re_greedy.proofs.greedy_test_law.Goals as goal

pub returns : goal.returns
returns c = greedy_test
