use Rattle.re_layers.proofs.FarColours.{far_colours_law}
use Rattle.re_layers.proofs.far_colours_law.Goals as goal

pub returns : goal.returns
returns c = far_colours_law
