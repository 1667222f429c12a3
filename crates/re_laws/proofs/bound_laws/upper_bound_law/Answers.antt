use Rattle.re_laws.proofs.ChainRounds.{upper_bound}
use Rattle.re_laws.proofs.bound_laws.upper_bound_law.Goals as goal

pub returns : goal.returns
returns c = λ first last k is steps holds. upper_bound is steps holds
