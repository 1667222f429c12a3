use Rattle.re_greedy.proofs.GreedyChains.{greedy_chain}
use Rattle.re_greedy.proofs.greedy_chain_law.Goals as goal

pub returns : goal.returns
returns c = greedy_chain
