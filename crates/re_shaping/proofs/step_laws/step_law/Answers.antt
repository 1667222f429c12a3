use Rattle.re_shaping.proofs.MoreSteps.{step_holds}
use Rattle.re_shaping.proofs.step_laws.step_law.Goals as goal

pub returns : goal.returns
returns c = step_holds
