use Rattle.re_given.proofs.AvoidedInputs.{loop_unavoidable}
use Rattle.re_given.proofs.loop_unavoidable_law.Goals as goal

pub returns : goal.returns
returns c = λ first middle one last input back j k T image is is_input to_middle onward steps some relaxed not_zero unavoidable h. loop_unavoidable is is_input to_middle onward steps some relaxed not_zero unavoidable T h
