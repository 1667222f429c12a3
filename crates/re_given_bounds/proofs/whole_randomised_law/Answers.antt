use Rattle.re_given_bounds.proofs.RandomMeaning.{whole_randomised}
use Rattle.re_given_bounds.proofs.whole_randomised_law.Goals as goal

pub returns : goal.returns
returns c = whole_randomised
