use Rattle.re_local.proofs.Separated.{sinkless_unique}
use Rattle.re_local.proofs.separating.sinkless_unique_law.Goals as goal

pub returns : goal.returns
returns c = sinkless_unique
