use Rattle.re_check.proofs.UpperSteps.{upper_steps}
use Rattle.re_check.proofs.clause_laws.upper_step_law.Goals as goal

pub returns : goal.returns
returns c = upper_steps
