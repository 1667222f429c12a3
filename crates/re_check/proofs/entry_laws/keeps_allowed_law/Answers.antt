use Rattle.re_check.proofs.AllowedImages.{keeps_allowed_law as law}
use Rattle.re_check.proofs.entry_laws.keeps_allowed_law.Goals as goal

pub returns : goal.returns
returns c = law
