use Rattle.re_labels.proofs.MaxSets.{max_sets_law as law}
use Rattle.re_labels.proofs.max_sets_law.Goals as goal

pub returns : goal.returns
returns c = law
