use Rattle.re_greedy.proofs.GreedyChains.{coloured_chain}
use Rattle.re_greedy.proofs.coloured_chain_law.Goals as goal

pub returns : goal.returns
returns c = coloured_chain
