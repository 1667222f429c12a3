use Rattle.re_forests.proofs.WholePaths.{two_colours_order}
use Rattle.re_forests.proofs.flexible.two_coloured_paths_law.Goals as goal

pub returns : goal.returns
returns c = two_colours_order
