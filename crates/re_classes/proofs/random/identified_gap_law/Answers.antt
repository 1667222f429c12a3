use Rattle.re_classes.proofs.RandomGap.{identified_gap}
use Rattle.re_classes.proofs.random.identified_gap_law.Goals as goal

pub returns : goal.returns
returns c = identified_gap
