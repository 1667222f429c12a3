use Rattle.re_given.proofs.OtherInputs.{SolvableGiven-input}
use Rattle.re_given.proofs.input_relaxation_law.Goals as goal

pub returns : goal.returns
returns c = SolvableGiven-input
