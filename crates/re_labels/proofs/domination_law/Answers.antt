use Rattle.re_labels.proofs.MaxRows.{dominated as law}
use Rattle.re_labels.proofs.domination_law.Goals as goal

pub returns : goal.returns
returns c = law
