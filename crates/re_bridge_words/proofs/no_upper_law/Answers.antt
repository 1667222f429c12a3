use Rattle.re_bridge_words.proofs.NoBridge.{no_upper}
use Rattle.re_bridge_words.proofs.no_upper_law.Goals as goal

pub returns : goal.returns
returns c = no_upper c.upper_walk_law.ensures
