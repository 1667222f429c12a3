use Rattle.re_inputs.proofs.NamedProofs.{named_inputs}
use Rattle.re_inputs.proofs.named_inputs_law.Goals as goal

pub returns : goal.returns
returns c = named_inputs
