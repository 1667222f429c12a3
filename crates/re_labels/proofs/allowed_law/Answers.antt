use Rattle.re_labels.proofs.MaxSets.{allowed_law as law}
use Rattle.re_labels.proofs.allowed_law.Goals as goal

pub returns : goal.returns
returns c = law
