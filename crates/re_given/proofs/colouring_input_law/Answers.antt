use Rattle.re_given.proofs.Colourings.{IsInput-colouring}
use Rattle.re_given.proofs.colouring_input_law.Goals as goal

pub returns : goal.returns
returns c = IsInput-colouring
