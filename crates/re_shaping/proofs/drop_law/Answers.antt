use Rattle.re_shaping.proofs.Laws.{drop_law}
use Rattle.re_shaping.proofs.drop_law.Goals as goal

pub returns : goal.returns
returns c = drop_law
