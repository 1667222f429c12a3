use Rattle.re_algo.proofs.Places.{fewer_views_law as law}
use Rattle.re_algo.proofs.place_laws.fewer_views_law.Goals as goal

pub returns : goal.returns
returns c = law
