use Rattle.re_laws.proofs.LawsOfViews.{shift_law as law}
use Rattle.re_laws.proofs.laws.shift_law.Goals as goal

pub returns : goal.returns
returns c d = law
