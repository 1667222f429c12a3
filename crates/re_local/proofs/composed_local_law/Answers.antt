use Rattle.re_local.proofs.ComposedLocal.{SolvableLocal-composed}
use Rattle.re_local.proofs.composed_local_law.Goals as goal

pub returns : goal.returns
returns c = SolvableLocal-composed
