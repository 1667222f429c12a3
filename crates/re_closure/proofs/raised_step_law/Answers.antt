use Rattle.re_closure.proofs.RaisedSteps.{raised_step_law as law}
use Rattle.re_closure.proofs.raised_step_law.Goals as goal

pub returns : goal.returns
returns c = law
