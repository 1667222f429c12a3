use Rattle.std.proofs.Common.{length}
use Rattle.re_greedy.proofs.partials.+extra.Given as goal

abbrev pub decreases-extra : goal.decreases-extra
decreases-extra l = length l.whole.now
