use Rattle.re_classes.proofs.BeyondLocal.{beyond_local}
use Rattle.re_classes.proofs.few_rounds.beyond_local_law.Goals as goal

pub returns : goal.returns
returns c = beyond_local
