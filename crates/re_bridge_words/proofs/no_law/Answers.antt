use Rattle.re_bridge_words.proofs.NoBridge.{no_means}
use Rattle.re_bridge_words.proofs.no_law.Goals as goal

pub returns : goal.returns
returns c = no_means c.bridge_law.ensures
