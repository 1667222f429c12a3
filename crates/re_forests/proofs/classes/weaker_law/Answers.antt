use Rattle.re_forests.proofs.WeakerForests.{weaker}
use Rattle.re_forests.proofs.classes.weaker_law.Goals as goal

pub returns : goal.returns
returns c = weaker
