use Rattle.re_laws.proofs.ChainRounds.{Solvable-rounds}
use Rattle.re_laws.proofs.bound_laws.rounds_law.Goals as goal

pub returns : goal.returns
returns c = Solvable-rounds
