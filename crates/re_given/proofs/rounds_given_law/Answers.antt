use Rattle.re_given.proofs.ChainGiven.{SolvableGiven-rounds}
use Rattle.re_given.proofs.rounds_given_law.Goals as goal

pub returns : goal.returns
returns c = SolvableGiven-rounds
