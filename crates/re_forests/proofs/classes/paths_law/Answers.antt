use Rattle.re_forests.proofs.BoundsAbove.{on_paths}
use Rattle.re_forests.proofs.classes.paths_law.Goals as goal

pub returns : goal.returns
returns c = on_paths
