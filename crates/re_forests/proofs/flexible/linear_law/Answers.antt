use Rattle.re_forests.proofs.Linear.{linear}
use Rattle.re_forests.proofs.flexible.linear_law.Goals as goal

pub returns : goal.returns
returns c = linear
