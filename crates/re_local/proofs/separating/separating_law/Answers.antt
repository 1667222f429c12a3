use Rattle.re_local.proofs.Separated.{separating}
use Rattle.re_local.proofs.separating.separating_law.Goals as goal

pub returns : goal.returns
returns c = separating
