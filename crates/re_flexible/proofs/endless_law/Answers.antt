use Rattle.re_flexible.proofs.Chains.{endless}
use Rattle.re_flexible.proofs.endless_law.Goals as goal

pub returns : goal.returns
returns c = endless
