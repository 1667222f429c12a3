use Rattle.re_local.proofs.LocalBounds.{fixed_point_local}
use Rattle.re_local.proofs.fixed_point_local_law.Goals as goal

pub returns : goal.returns
returns c = fixed_point_local
