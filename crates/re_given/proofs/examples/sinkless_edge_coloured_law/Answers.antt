use Rattle.re_given.proofs.Worked.{sinkless_edge_coloured}
use Rattle.re_given.proofs.examples.sinkless_edge_coloured_law.Goals as goal

pub returns : goal.returns
returns c = sinkless_edge_coloured
