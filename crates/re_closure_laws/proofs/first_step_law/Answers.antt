use Rattle.re_closure_laws.proofs.FirstSteps.{first_step_law as law}
use Rattle.re_closure_laws.proofs.first_step_law.Goals as goal

pub returns : goal.returns
returns c = law
