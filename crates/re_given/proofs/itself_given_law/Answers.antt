use Rattle.re_given.proofs.Itself.{SolvableGiven-itself}
use Rattle.re_given.proofs.itself_given_law.Goals as goal

pub returns : goal.returns
returns c = SolvableGiven-itself
