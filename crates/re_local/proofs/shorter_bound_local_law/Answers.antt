use Rattle.re_local.proofs.LocalBounds.{shorter_bound_local}
use Rattle.re_local.proofs.shorter_bound_local_law.Goals as goal

pub returns : goal.returns
returns c = shorter_bound_local
