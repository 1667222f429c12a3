use Rattle.re_chains.proofs.ChainBounds.{chain_sound}
use Rattle.re_chains.proofs.chain_law.Goals as goal

pub returns : goal.returns
returns c = chain_sound
