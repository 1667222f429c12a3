use Rattle.re_laws.proofs.Renaming.{Solvable-renamed}
use Rattle.re_laws.proofs.bound_laws.renaming_rounds_law.Goals as goal

pub returns : goal.returns
returns c = Solvable-renamed
