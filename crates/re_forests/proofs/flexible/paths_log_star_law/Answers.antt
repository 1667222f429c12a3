use Rattle.re_forests.proofs.PathsLogStar.{paths_log_star}
use Rattle.re_layers.proofs.FarColours.{far_colours_law}
use Rattle.re_layers.proofs.PathLayers.{path_layers}
use Rattle.re_forests.proofs.flexible.paths_log_star_law.Goals as goal

pub returns : goal.returns
returns c = paths_log_star (path_layers far_colours_law)
