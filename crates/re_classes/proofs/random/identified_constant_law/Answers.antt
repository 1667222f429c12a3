use Rattle.re_classes.proofs.RandomGap.{identified_constant}
use Rattle.re_classes.proofs.random.identified_constant_law.Goals as goal

pub returns : goal.returns
returns c = identified_constant
