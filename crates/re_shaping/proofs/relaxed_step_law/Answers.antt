use Rattle.re_shaping.proofs.RelaxedSteps.{relaxed-step}
use Rattle.re_shaping.proofs.relaxed_step_law.Goals as goal

pub returns : goal.returns
returns c = relaxed-step
