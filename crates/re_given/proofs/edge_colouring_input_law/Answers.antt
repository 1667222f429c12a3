use Rattle.re_given.proofs.NamedInputs.{edge_colouring_input}
use Rattle.re_given.proofs.edge_colouring_input_law.Goals as goal

pub returns : goal.returns
returns c = edge_colouring_input
