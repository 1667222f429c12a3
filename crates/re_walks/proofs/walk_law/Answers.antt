use Rattle.re_walks.proofs.WalkLemmas.{walk_law as law}
use Rattle.re_walks.proofs.walk_law.Goals as goal

pub returns : goal.returns
returns c = law
