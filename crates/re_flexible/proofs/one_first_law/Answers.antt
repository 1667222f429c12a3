use Rattle.re_flexible.proofs.Chains.{one_first}
use Rattle.re_flexible.proofs.one_first_law.Goals as goal

pub returns : goal.returns
returns c = one_first
