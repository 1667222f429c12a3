use Rattle.re_given_bounds.proofs.EdgeColours.{edges_coloured}
use Rattle.re_given_bounds.proofs.input_laws.edges_coloured_law.Goals as goal

pub returns : goal.returns
returns c = edges_coloured
