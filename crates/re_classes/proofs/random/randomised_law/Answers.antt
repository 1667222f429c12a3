use Rattle.re_classes.proofs.Derandomised.{randomised}
use Rattle.re_classes.proofs.random.randomised_law.Goals as goal

pub returns : goal.returns
returns c = randomised
