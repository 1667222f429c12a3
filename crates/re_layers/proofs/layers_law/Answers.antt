use Rattle.re_layers.proofs.Colours.{colours_law}
use Rattle.re_layers.proofs.Layering.{layers}
use Rattle.re_layers.proofs.layers_law.Goals as goal

pub returns : goal.returns
returns c = layers colours_law
