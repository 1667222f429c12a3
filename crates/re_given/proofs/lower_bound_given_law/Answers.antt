use Rattle.re_given.proofs.ChainGiven.{lower_bound_given}
use Rattle.re_given.proofs.lower_bound_given_law.Goals as goal

pub returns : goal.returns
returns c = λ first last input k T is is_input steps not_zero l h. lower_bound_given is is_input steps not_zero T l h
