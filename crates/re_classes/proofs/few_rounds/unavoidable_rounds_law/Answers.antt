use Rattle.re_classes.proofs.GivenGap.{unavoidable_rounds}
use Rattle.re_classes.proofs.few_rounds.unavoidable_rounds_law.Goals as goal

pub returns : goal.returns
returns c = unavoidable_rounds
