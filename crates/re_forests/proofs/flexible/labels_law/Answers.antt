use Rattle.re_forests.proofs.Solved.{labels}
use Rattle.re_forests.proofs.flexible.labels_law.Goals as goal

pub returns : goal.returns
returns c = labels
