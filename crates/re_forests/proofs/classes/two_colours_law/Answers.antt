use Rattle.re_forests.proofs.WorkedForests.{two_colours_linear}
use Rattle.re_forests.proofs.classes.two_colours_law.Goals as goal

pub returns : goal.returns
returns c = two_colours_linear
