use Rattle.re_given.proofs.NamedInputs.{IsInput-edges}
use Rattle.re_given.proofs.edges_input_law.Goals as goal

pub returns : goal.returns
returns c = IsInput-edges
