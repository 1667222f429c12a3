use Rattle.re_given.proofs.Worked.{sinkless_coloured}
use Rattle.re_given.proofs.examples.sinkless_coloured_law.Goals as goal

pub returns : goal.returns
returns c = sinkless_coloured
