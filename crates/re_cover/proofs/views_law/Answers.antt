use Rattle.re_cover.proofs.Outputs.{views_law as law}
use Rattle.re_cover.proofs.views_law.Goals as goal

pub returns : goal.returns
returns c = law
