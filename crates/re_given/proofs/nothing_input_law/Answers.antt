use Rattle.re_given.proofs.Ungiven.{IsInput-nothing}
use Rattle.re_given.proofs.nothing_input_law.Goals as goal

pub returns : goal.returns
returns c = IsInput-nothing
