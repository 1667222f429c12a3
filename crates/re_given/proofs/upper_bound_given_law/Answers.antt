use Rattle.re_given.proofs.ChainGiven.{upper_bound_given}
use Rattle.re_given.proofs.upper_bound_given_law.Goals as goal

pub returns : goal.returns
returns c = λ first last input k is_input steps holds. upper_bound_given is_input steps holds
