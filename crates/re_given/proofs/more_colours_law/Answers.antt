use Rattle.re_given.proofs.Colourings.{IsRelaxed-colours}
use Rattle.re_given.proofs.more_colours_law.Goals as goal

pub returns : goal.returns
returns c = IsRelaxed-colours
