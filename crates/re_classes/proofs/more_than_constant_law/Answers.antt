use Rattle.re_classes.proofs.Decided.{more_than_constant}
use Rattle.re_classes.proofs.more_than_constant_law.Goals as goal

pub returns : goal.returns
returns c = more_than_constant
