use Rattle.std.proofs.Common.{length}
use Rattle.re_labels.proofs.configuration.+compared.Given as goal

abbrev pub decreases-compared : goal.decreases-compared
decreases-compared l = length l.labels.now
