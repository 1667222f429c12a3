use Rattle.re_shaping.proofs.Marking.{moved_mark_law}
use Rattle.re_shaping.proofs.colour_laws.moved_mark_law.Goals as goal

pub returns : goal.returns
returns c = moved_mark_law
