use Rattle.re_given.proofs.AvoidedInputs.{unavoidable_fewer}
use Rattle.re_given.proofs.fewer_labels_law.Goals as goal

pub returns : goal.returns
returns c = unavoidable_fewer
