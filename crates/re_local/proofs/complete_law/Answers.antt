use Rattle.re_local.proofs.Complete.{Separates-complete}
use Rattle.re_local.proofs.complete_law.Goals as goal

pub returns : goal.returns
returns c = Separates-complete
