use Rattle.re_given.proofs.RelativeGiven.{SolvableGiven-relative}
use Rattle.re_given.proofs.relative_law.Goals as goal

pub returns : goal.returns
returns c = SolvableGiven-relative
