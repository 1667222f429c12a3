use Rattle.re_bounds.proofs.GivenMeaning.{upper_bound_means}
use Rattle.re_bounds.proofs.upper_bound_law.Goals as goal

pub returns : goal.returns
returns c = upper_bound_means
