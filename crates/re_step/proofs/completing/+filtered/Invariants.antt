use Rattle.std.proofs.Common.{length}
use Rattle.re_step.proofs.completing.+filtered.Given as goal

abbrev pub decreases-filtered : goal.decreases-filtered
decreases-filtered l = length l.among
