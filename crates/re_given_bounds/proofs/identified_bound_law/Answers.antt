use Rattle.re_given_bounds.proofs.RandomMeaning.{identified_bound}
use Rattle.re_given_bounds.proofs.identified_bound_law.Goals as goal

pub returns : goal.returns
returns c = identified_bound
