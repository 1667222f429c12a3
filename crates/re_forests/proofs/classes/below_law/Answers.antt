use Rattle.re_forests.proofs.BoundsAbove.{below}
use Rattle.re_forests.proofs.classes.below_law.Goals as goal

pub returns : goal.returns
returns c = below
