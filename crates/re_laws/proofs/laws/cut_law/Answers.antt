use Rattle.re_laws.proofs.LawsOfViews.{cut_law as law}
use Rattle.re_laws.proofs.laws.cut_law.Goals as goal

pub returns : goal.returns
returns c d = law
