use Rattle.re_laws.proofs.ChainRounds.{lower_bound}
use Rattle.re_laws.proofs.bound_laws.lower_bound_law.Goals as goal

pub returns : goal.returns
returns c = λ first last k T is steps not_zero l h. lower_bound is steps not_zero T l h
