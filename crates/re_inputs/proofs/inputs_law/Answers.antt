use Rattle.re_inputs.proofs.NamedProofs.{inputs}
use Rattle.re_inputs.proofs.inputs_law.Goals as goal

pub returns : goal.returns
returns c = inputs
