use Rattle.re_forests.proofs.BoundsAbove.{below_log_star}
use Rattle.re_forests.proofs.classes.below_log_star_law.Goals as goal

pub returns : goal.returns
returns c = below_log_star
