use Rattle.re_classes.proofs.GivenGap.{coloured_gap}
use Rattle.re_classes.proofs.few_rounds.coloured_gap_law.Goals as goal

pub returns : goal.returns
returns c = coloured_gap
