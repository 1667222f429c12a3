use Rattle.re_inputs.proofs.NamedProofs.{colouring_family}
use Rattle.re_inputs.proofs.colouring_family_law.Goals as goal

pub returns : goal.returns
returns c = colouring_family
