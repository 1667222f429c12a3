use Rattle.re_layers.proofs.FarColours.{far_colours_law}
use Rattle.re_layers.proofs.PathLayers.{path_layers}
use Rattle.re_layers.proofs.path_layers_law.Goals as goal

pub returns : goal.returns
returns c = path_layers far_colours_law
