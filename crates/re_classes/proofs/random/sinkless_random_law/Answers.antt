use Rattle.re_classes.proofs.Derandomised.{sinkless_random}
use Rattle.re_classes.proofs.random.sinkless_random_law.Goals as goal

pub returns : goal.returns
returns c = sinkless_random
