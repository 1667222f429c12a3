use Rattle.re_local.proofs.WholeBound.{whole_bound}
use Rattle.re_local.proofs.separating.whole_bound_law.Goals as goal

pub returns : goal.returns
returns c = whole_bound
