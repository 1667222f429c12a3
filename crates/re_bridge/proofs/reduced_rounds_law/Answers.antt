use Rattle.re_bridge.proofs.FewestImages.{reduced_rounds_law as law}
use Rattle.re_bridge.proofs.reduced_rounds_law.Goals as goal

pub returns : goal.returns
returns c = law
