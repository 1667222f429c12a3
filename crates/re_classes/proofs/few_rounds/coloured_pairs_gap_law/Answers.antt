use Rattle.re_classes.proofs.GivenGap.{coloured_pairs_gap}
use Rattle.re_classes.proofs.few_rounds.coloured_pairs_gap_law.Goals as goal

pub returns : goal.returns
returns c = coloured_pairs_gap
