use Rattle.re_bridge.proofs.Bridging.{bridge_law as law}
use Rattle.re_bridge.proofs.bridge_law.Goals as goal

pub returns : goal.returns
returns c = law
