use Rattle.re_classes.proofs.RandomGap.{randomised_constant}
use Rattle.re_classes.proofs.random.randomised_constant_law.Goals as goal

pub returns : goal.returns
returns c = randomised_constant
