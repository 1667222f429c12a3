use Rattle.re_cover.proofs.Outputs.{seen_law as law}
use Rattle.re_cover.proofs.seen_law.Goals as goal

pub returns : goal.returns
returns c = law
