use Rattle.re_given_words.proofs.RoundsLaws.{one_round}
use Rattle.re_given_words.proofs.ahead_laws.one_round_law.Goals as goal

pub returns : goal.returns
returns c = one_round
