use Rattle.re_given_bounds.proofs.RandomMeaning.{randomised_bound}
use Rattle.re_given_bounds.proofs.randomised_bound_law.Goals as goal

pub returns : goal.returns
returns c = randomised_bound
