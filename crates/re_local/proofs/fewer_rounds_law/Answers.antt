use Rattle.re_local.proofs.FewerRounds.{Separates-fewer}
use Rattle.re_local.proofs.fewer_rounds_law.Goals as goal

pub returns : goal.returns
returns c = Separates-fewer
