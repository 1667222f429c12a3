use Rattle.re_algo.proofs.Places.{place_law as law}
use Rattle.re_algo.proofs.place_laws.place_law.Goals as goal

pub returns : goal.returns
returns c = law
