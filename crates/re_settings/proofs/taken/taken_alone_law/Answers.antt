use Rattle.re_settings.proofs.TakenAlone.{taken_alone}
use Rattle.re_settings.proofs.taken.taken_alone_law.Goals as goal

pub returns : goal.returns
returns c = taken_alone
