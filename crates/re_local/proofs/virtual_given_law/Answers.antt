use Rattle.re_local.proofs.VirtualGiven.{SolvableGiven-virtual}
use Rattle.re_local.proofs.virtual_given_law.Goals as goal

pub returns : goal.returns
returns c = SolvableGiven-virtual
