use Rattle.re_closure_laws.proofs.Steps.{step_law as law}
use Rattle.re_closure_laws.proofs.step_law.Goals as goal

pub returns : goal.returns
returns c = law
