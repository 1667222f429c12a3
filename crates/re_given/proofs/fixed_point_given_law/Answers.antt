use Rattle.std.proofs.Common.{add-one}
use Rattle.re_given.proofs.ChainGiven.{fixed_point_given}
use Rattle.re_given.proofs.fixed_point_given_law.Goals as goal

pub returns : goal.returns
returns c = λ first middle last input back k T image. rw add-one (λ is is_input to_middle round relaxed not_zero h. fixed_point_given is is_input to_middle round relaxed not_zero T h)
