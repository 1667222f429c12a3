use Rattle.std.proofs.Common.{length}
use Rattle.re_check.proofs.upper.+have_sets.Given as goal

abbrev pub decreases-have_sets : goal.decreases-have_sets
decreases-have_sets l = length l.entries.now
