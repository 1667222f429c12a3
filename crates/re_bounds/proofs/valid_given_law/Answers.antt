use Rattle.re_bounds.proofs.GivenMeaning.{valid_given}
use Rattle.re_bounds.proofs.valid_given_law.Goals as goal

pub returns : goal.returns
returns c = valid_given
