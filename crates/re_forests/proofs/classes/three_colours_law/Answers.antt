use Rattle.re_forests.proofs.WorkedForests.{three_colours}
use Rattle.re_forests.proofs.classes.three_colours_law.Goals as goal

pub returns : goal.returns
returns c = three_colours
