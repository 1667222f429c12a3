use Rattle.re_classes.proofs.PortNumbered.{Solvable-local}
use Rattle.re_classes.proofs.few_rounds.identifiers_no_use_law.Goals as goal

pub returns : goal.returns
returns c = Solvable-local
