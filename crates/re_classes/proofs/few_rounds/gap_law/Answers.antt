use Rattle.re_classes.proofs.Gap.{gap}
use Rattle.re_classes.proofs.few_rounds.gap_law.Goals as goal

pub returns : goal.returns
returns c = gap
