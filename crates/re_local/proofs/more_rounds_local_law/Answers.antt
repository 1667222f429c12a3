use Rattle.re_local.proofs.MoreLocal.{SolvableLocal-more}
use Rattle.re_local.proofs.more_rounds_local_law.Goals as goal

pub returns : goal.returns
returns c = SolvableLocal-more
