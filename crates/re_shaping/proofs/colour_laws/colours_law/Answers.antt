use Rattle.re_shaping.proofs.Marking.{colours_law}
use Rattle.re_shaping.proofs.colour_laws.colours_law.Goals as goal

pub returns : goal.returns
returns c = colours_law
