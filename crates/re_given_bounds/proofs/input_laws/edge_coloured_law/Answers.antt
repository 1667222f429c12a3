use Rattle.re_given_bounds.proofs.EdgeClasses.{edge_coloured}
use Rattle.re_given_bounds.proofs.input_laws.edge_coloured_law.Goals as goal

pub returns : goal.returns
returns c = edge_coloured
