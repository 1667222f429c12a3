use Rattle.re_problem.proofs.ZeroPlaces.{law}
use Rattle.re_problem.proofs.zero.zero_place_law.Goals as goal

pub returns : goal.returns
returns c = law
