use Rattle.re_forests.proofs.BoundsBelow.{constant_forests}
use Rattle.re_forests.proofs.classes.constant_law.Goals as goal

pub returns : goal.returns
returns c = constant_forests
