use Rattle.re_forests.proofs.BoundsAbove.{below_linear}
use Rattle.re_forests.proofs.classes.below_linear_law.Goals as goal

pub returns : goal.returns
returns c = below_linear
