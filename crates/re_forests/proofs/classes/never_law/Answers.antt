use Rattle.re_forests.proofs.BoundsAbove.{never}
use Rattle.re_forests.proofs.classes.never_law.Goals as goal

pub returns : goal.returns
returns c = never
