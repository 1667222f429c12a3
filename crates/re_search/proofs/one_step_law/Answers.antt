use Rattle.re_search.proofs.OneSteps.{one_step_accepted}
use Rattle.re_search.proofs.one_step_law.Goals as goal

pub returns : goal.returns
returns c = one_step_accepted
