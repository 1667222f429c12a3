use Rattle.re_forests.proofs.TwoCases.{solved_or_not}
use Rattle.re_forests.proofs.flexible.solved_or_not_law.Goals as goal

pub returns : goal.returns
returns c = solved_or_not
