use Rattle.re_classes.proofs.ApartClasses.{weaker}
use Rattle.re_classes.proofs.weaker_law.Goals as goal

pub returns : goal.returns
returns c = weaker
