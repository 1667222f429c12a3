use Rattle.std.proofs.Common.{arith}
use Rattle.re_given.proofs.AvoidedInputs.{fixed_point_unavoidable}
use Rattle.re_given.proofs.fixed_point_unavoidable_law.Goals as goal

pub returns : goal.returns
returns c = λ first middle last input back k n T image is is_input to_middle round relaxed not_zero few unavoidable h. fixed_point_unavoidable is is_input to_middle round (omega arith) relaxed not_zero few unavoidable T h
