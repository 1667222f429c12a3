use Rattle.re_shaping.proofs.Laws.{merge_law}
use Rattle.re_shaping.proofs.merge_law.Goals as goal

pub returns : goal.returns
returns c = merge_law
