use Rattle.re_given_bounds.proofs.EdgeBounds.{upper_bound_edge_coloured}
use Rattle.re_given_bounds.proofs.input_laws.upper_bound_edge_coloured_law.Goals as goal

pub returns : goal.returns
returns c = upper_bound_edge_coloured
