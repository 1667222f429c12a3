use Rattle.re_classes.proofs.Certain.{certain}
use Rattle.re_classes.proofs.random.certain_law.Goals as goal

pub returns : goal.returns
returns c = certain
