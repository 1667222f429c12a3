use Rattle.re_given_words.proofs.RoundsLaws.{two_rounds}
use Rattle.re_given_words.proofs.ahead_laws.two_rounds_law.Goals as goal

pub returns : goal.returns
returns c = two_rounds
