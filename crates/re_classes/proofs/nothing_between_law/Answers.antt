use Rattle.re_classes.proofs.Decided.{nothing_between}
use Rattle.re_classes.proofs.nothing_between_law.Goals as goal

pub returns : goal.returns
returns c = nothing_between
