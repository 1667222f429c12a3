use Rattle.re_labels.proofs.MaxRows.{maximal_law as law}
use Rattle.re_labels.proofs.maximal_law.Goals as goal

pub returns : goal.returns
returns c = law
