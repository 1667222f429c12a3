use Rattle.re_forests.proofs.BoundsAbove.{below_log}
use Rattle.re_forests.proofs.classes.below_log_law.Goals as goal

pub returns : goal.returns
returns c = below_log
