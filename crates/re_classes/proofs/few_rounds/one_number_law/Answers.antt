use Rattle.re_classes.proofs.Gap.{one_number}
use Rattle.re_classes.proofs.few_rounds.one_number_law.Goals as goal

pub returns : goal.returns
returns c = one_number
