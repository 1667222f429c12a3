use Rattle.re_bounds.proofs.GivenMeaning.{beside}
use Rattle.re_bounds.proofs.beside_law.Goals as goal

pub returns : goal.returns
returns c = beside
