use Rattle.re_forests.proofs.WorkedForests.{sinkless}
use Rattle.re_forests.proofs.classes.sinkless_law.Goals as goal

pub returns : goal.returns
returns c = sinkless
