use Rattle.re_bounds.proofs.GivenMeaning.{fixed_bound_means}
use Rattle.re_bounds.proofs.fixed_bound_law.Goals as goal

pub returns : goal.returns
returns c = fixed_bound_means
