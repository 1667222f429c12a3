use Rattle.re_given.proofs.Ungiven.{SolvableGiven-ungiven}
use Rattle.re_given.proofs.ungiven_law.Goals as goal

pub returns : goal.returns
returns c = SolvableGiven-ungiven
