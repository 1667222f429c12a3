use Rattle.re_bounds.proofs.GivenMeaning.{even_bound_means}
use Rattle.re_bounds.proofs.even_bound_law.Goals as goal

pub returns : goal.returns
returns c = even_bound_means
