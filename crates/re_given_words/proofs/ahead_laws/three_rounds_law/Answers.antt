use Rattle.re_given_words.proofs.RoundsLaws.{three_rounds}
use Rattle.re_given_words.proofs.ahead_laws.three_rounds_law.Goals as goal

pub returns : goal.returns
returns c = three_rounds
