use Rattle.re_forests.proofs.WholePaths.{whole_paths}
use Rattle.re_forests.proofs.flexible.whole_paths_law.Goals as goal

pub returns : goal.returns
returns c = whole_paths
