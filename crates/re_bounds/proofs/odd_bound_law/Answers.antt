use Rattle.re_bounds.proofs.GivenMeaning.{odd_bound_means}
use Rattle.re_bounds.proofs.odd_bound_law.Goals as goal

pub returns : goal.returns
returns c = odd_bound_means
