use Rattle.re_laws.proofs.LawsOfViews.{commute_law as law}
use Rattle.re_laws.proofs.laws.commute_law.Goals as goal

pub returns : goal.returns
returns c d = law
