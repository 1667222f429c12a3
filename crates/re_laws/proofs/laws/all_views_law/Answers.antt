use Rattle.re_laws.proofs.LawsOfViews.{all_views_law as law}
use Rattle.re_laws.proofs.laws.all_views_law.Goals as goal

pub returns : goal.returns
returns c = law
