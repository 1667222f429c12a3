use Rattle.re_given.proofs.AvoidedInputs.{loop_given}
use Rattle.re_given.proofs.loop_given_law.Goals as goal

pub returns : goal.returns
returns c = λ first middle one last input back j k T image is is_input to_middle onward steps some relaxed not_zero h. loop_given is is_input to_middle onward steps some relaxed not_zero T h
