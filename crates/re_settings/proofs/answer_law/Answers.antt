use Rattle.re_settings.proofs.GivenMeans.{answer_law}
use Rattle.re_settings.proofs.answer_law.Goals as goal

pub returns : goal.returns
returns c = answer_law
