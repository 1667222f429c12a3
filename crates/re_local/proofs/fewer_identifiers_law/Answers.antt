use Rattle.re_local.proofs.LocalGiven.{SolvableLocal-fewer}
use Rattle.re_local.proofs.fewer_identifiers_law.Goals as goal

pub returns : goal.returns
returns c = SolvableLocal-fewer
