use Rattle.re_evidence.proofs.OneCondition.{one_condition}
use Rattle.re_evidence.proofs.one_condition_law.Goals as goal

pub returns : goal.returns
returns c = one_condition
