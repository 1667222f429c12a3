use Rattle.re_laws.proofs.LawsOfViews.{pad_law as law}
use Rattle.re_laws.proofs.laws.pad_law.Goals as goal

pub returns : goal.returns
returns c d = law
