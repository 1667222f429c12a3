use Rattle.re_given_words.proofs.GoingOn.{taken_law}
use Rattle.re_given_words.proofs.going_on.taken_law.Goals as goal

pub returns : goal.returns
returns c = taken_law
