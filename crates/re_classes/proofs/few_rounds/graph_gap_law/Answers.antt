use Rattle.re_classes.proofs.Gap.{graph_gap}
use Rattle.re_classes.proofs.few_rounds.graph_gap_law.Goals as goal

pub returns : goal.returns
returns c = graph_gap
