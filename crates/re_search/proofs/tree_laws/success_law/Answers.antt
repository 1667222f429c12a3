use Rattle.re_search.proofs.Successes.{success_law}
use Rattle.re_search.proofs.tree_laws.success_law.Goals as goal

pub returns : goal.returns
returns c = success_law
