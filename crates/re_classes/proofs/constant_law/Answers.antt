use Rattle.re_classes.proofs.Decided.{constant}
use Rattle.re_classes.proofs.constant_law.Goals as goal

pub returns : goal.returns
returns c = constant
