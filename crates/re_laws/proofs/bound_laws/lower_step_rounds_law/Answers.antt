use Rattle.re_laws.proofs.Mapping.{Solvable-lower_step}
use Rattle.re_laws.proofs.bound_laws.lower_step_rounds_law.Goals as goal

pub returns : goal.returns
returns c = Solvable-lower_step
