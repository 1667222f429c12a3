use Rattle.re_forests.proofs.BoundsBelow.{above_linear}
use Rattle.re_forests.proofs.classes.above_linear_law.Goals as goal

pub returns : goal.returns
returns c = above_linear
