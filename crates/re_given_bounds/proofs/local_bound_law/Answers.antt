use Rattle.re_given_bounds.proofs.LocalMeaning.{local_bound}
use Rattle.re_given_bounds.proofs.local_bound_law.Goals as goal

pub returns : goal.returns
returns c = local_bound
