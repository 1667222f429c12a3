use Rattle.re_classes.proofs.DerivedLabels.{few_labels}
use Rattle.re_classes.proofs.few_rounds.few_labels_law.Goals as goal

pub returns : goal.returns
returns c = few_labels
