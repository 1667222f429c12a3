use Rattle.re_laws.proofs.LawsOfViews.{branchwise_law as law}
use Rattle.re_laws.proofs.laws.branchwise_law.Goals as goal

pub returns : goal.returns
returns c = law
