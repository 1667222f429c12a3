use Rattle.re_flexible.proofs.Chains.{few_levels}
use Rattle.re_flexible.proofs.few_levels_law.Goals as goal

pub returns : goal.returns
returns c = few_levels
