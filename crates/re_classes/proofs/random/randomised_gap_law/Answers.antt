use Rattle.re_classes.proofs.RandomGap.{randomised_gap}
use Rattle.re_classes.proofs.random.randomised_gap_law.Goals as goal

pub returns : goal.returns
returns c = randomised_gap
