use Rattle.re_given.proofs.NamedInputs.{IsInput-sides}
use Rattle.re_given.proofs.sides_input_law.Goals as goal

pub returns : goal.returns
returns c = IsInput-sides
