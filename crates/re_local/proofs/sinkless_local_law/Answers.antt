use Rattle.re_local.proofs.Sinkless.{sinkless_at_once, sinkless_local}
use Rattle.re_local.proofs.sinkless_local_law.Goals as goal

pub returns : goal.returns
returns c = (sinkless_local, sinkless_at_once)
