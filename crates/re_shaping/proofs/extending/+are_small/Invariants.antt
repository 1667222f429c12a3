use Rattle.std.proofs.Common.{length}
use Rattle.re_shaping.proofs.extending.+are_small.Given as goal

abbrev pub decreases-are_small : goal.decreases-are_small
decreases-are_small l = length l.steps.now
