use Rattle.re_bridge.proofs.FewestImages.{reduction_law as law}
use Rattle.re_bridge.proofs.reduction_law.Goals as goal

pub returns : goal.returns
returns c = law
