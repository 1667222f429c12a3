use Rattle.re_bridge.proofs.LeastLabels.{least_labels_law as law}
use Rattle.re_bridge.proofs.least_labels_law.Goals as goal

pub returns : goal.returns
returns c = law
