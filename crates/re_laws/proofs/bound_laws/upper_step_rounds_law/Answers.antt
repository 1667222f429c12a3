use Rattle.re_laws.proofs.ChainRounds.{Solvable-before}
use Rattle.re_laws.proofs.bound_laws.upper_step_rounds_law.Goals as goal

pub returns : goal.returns
returns c = Solvable-before
