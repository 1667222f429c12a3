use Rattle.re_laws.proofs.Covering.{Solvable-without}
use Rattle.re_laws.proofs.bound_laws.cover_law.Goals as goal

pub returns : goal.returns
returns c = Solvable-without
