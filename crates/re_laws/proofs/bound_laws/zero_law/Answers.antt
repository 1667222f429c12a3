use Rattle.re_laws.proofs.ZeroRounds.{Solvable-zero}
use Rattle.re_laws.proofs.bound_laws.zero_law.Goals as goal

pub returns : goal.returns
returns c = Solvable-zero
