use Rattle.re_classes.proofs.Derandomised.{randomised_identified}
use Rattle.re_classes.proofs.random.randomised_identified_law.Goals as goal

pub returns : goal.returns
returns c = randomised_identified
