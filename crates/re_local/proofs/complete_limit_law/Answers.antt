use Rattle.std.proofs.Common.{add-one}
use Rattle.re_local.proofs.CompleteLimit.{complete_limit}
use Rattle.re_local.proofs.complete_limit_law.Goals as goal

pub returns : goal.returns
returns c = λ a p N T least most least' most' many apart. complete_limit a p N T least most least' most' many (rw add-one at apart)
