use Rattle.re_bridge_words.proofs.GivenReductions.{reduced_given_law as law}
use Rattle.re_bridge_words.proofs.reduced_given_law.Goals as goal

pub returns : goal.returns
returns c = law
