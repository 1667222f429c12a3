use Rattle.re_classes.proofs.Derandomised.{derandomised}
use Rattle.re_classes.proofs.random.derandomised_law.Goals as goal

pub returns : goal.returns
returns c = derandomised
