use Rattle.re_forests.proofs.BoundsBelow.{nothing_between}
use Rattle.re_forests.proofs.classes.nothing_between_law.Goals as goal

pub returns : goal.returns
returns c = nothing_between
