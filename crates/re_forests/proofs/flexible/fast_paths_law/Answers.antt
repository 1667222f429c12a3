use Rattle.re_forests.proofs.FastPaths.{paths}
use Rattle.re_forests.proofs.flexible.fast_paths_law.Goals as goal

pub returns : goal.returns
returns c = paths
