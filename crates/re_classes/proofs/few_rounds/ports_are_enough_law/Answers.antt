use Rattle.re_classes.proofs.PortNumbered.{SolvableLocal-unnoticed}
use Rattle.re_classes.proofs.few_rounds.ports_are_enough_law.Goals as goal

pub returns : goal.returns
returns c = SolvableLocal-unnoticed
