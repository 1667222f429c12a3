use Rattle.re_laws.proofs.Relaxing.{Solvable-relaxed}
use Rattle.re_laws.proofs.bound_laws.relaxation_law.Goals as goal

pub returns : goal.returns
returns c = Solvable-relaxed
