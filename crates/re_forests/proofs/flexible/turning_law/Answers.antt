use Rattle.re_forests.proofs.Turning.{turning}
use Rattle.re_forests.proofs.flexible.turning_law.Goals as goal

pub returns : goal.returns
returns c = turning
