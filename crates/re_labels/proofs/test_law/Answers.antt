use Rattle.re_labels.proofs.MaxSets.{test_law as law}
use Rattle.re_labels.proofs.test_law.Goals as goal

pub returns : goal.returns
returns c = law
