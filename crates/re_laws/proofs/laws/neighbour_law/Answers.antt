use Rattle.re_laws.proofs.LawsOfViews.{neighbour_law as law}
use Rattle.re_laws.proofs.laws.neighbour_law.Goals as goal

pub returns : goal.returns
returns c d = law
