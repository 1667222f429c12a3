use Rattle.re_classes.proofs.Derandomised.{derandomised_identified}
use Rattle.re_classes.proofs.random.derandomised_identified_law.Goals as goal

pub returns : goal.returns
returns c = derandomised_identified
