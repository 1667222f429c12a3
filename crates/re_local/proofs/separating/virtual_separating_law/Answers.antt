use Rattle.re_local.proofs.Separated.{virtual_separating}
use Rattle.re_local.proofs.separating.virtual_separating_law.Goals as goal

pub returns : goal.returns
returns c = virtual_separating
