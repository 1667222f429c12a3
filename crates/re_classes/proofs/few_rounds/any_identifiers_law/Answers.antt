use Rattle.re_classes.proofs.PortNumbered.{any_identifiers}
use Rattle.re_classes.proofs.few_rounds.any_identifiers_law.Goals as goal

pub returns : goal.returns
returns c = any_identifiers
