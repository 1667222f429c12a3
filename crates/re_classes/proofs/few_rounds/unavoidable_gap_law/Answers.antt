use Rattle.re_classes.proofs.GivenGap.{unavoidable_gap}
use Rattle.re_classes.proofs.few_rounds.unavoidable_gap_law.Goals as goal

pub returns : goal.returns
returns c = unavoidable_gap
