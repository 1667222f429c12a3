use Rattle.re_given_bounds.proofs.EdgeClasses.{order_edge_coloured}
use Rattle.re_given_bounds.proofs.input_laws.order_edge_coloured_law.Goals as goal

pub returns : goal.returns
returns c = order_edge_coloured
