use Rattle.re_local.proofs.ColouredLocal.{SolvableLocal-coloured}
use Rattle.re_local.proofs.coloured_local_law.Goals as goal

pub returns : goal.returns
returns c = SolvableLocal-coloured
