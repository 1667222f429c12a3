use Rattle.re_shaping.proofs.Laws.{name_law}
use Rattle.re_shaping.proofs.name_law.Goals as goal

pub returns : goal.returns
returns c = name_law
