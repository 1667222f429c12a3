use Rattle.re_layers.proofs.Colours.{colours_law}
use Rattle.re_layers.proofs.colours_law.Goals as goal

pub returns : goal.returns
returns c = colours_law
