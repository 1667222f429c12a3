use Rattle.re_local.proofs.LocalGiven.{SolvableGiven-labelled}
use Rattle.re_local.proofs.local_given_law.Goals as goal

pub returns : goal.returns
returns c = SolvableGiven-labelled
