use Rattle.re_forests.proofs.BoundsBelow.{above}
use Rattle.re_forests.proofs.classes.above_law.Goals as goal

pub returns : goal.returns
returns c = above
