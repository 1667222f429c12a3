use Rattle.re_given_bounds.proofs.EdgeBounds.{no_edge_coloured}
use Rattle.re_given_bounds.proofs.input_laws.no_edge_coloured_law.Goals as goal

pub returns : goal.returns
returns c = no_edge_coloured
