use Rattle.re_local.proofs.LocalGiven.{SolvableLabelled-local}
use Rattle.re_local.proofs.labelled_law.Goals as goal

pub returns : goal.returns
returns c = SolvableLabelled-local
