use Rattle.std.proofs.Common.{length}
use Rattle.re_graph.proofs.printing.+push_others.Given as goal

abbrev pub decreases-push_others : goal.decreases-push_others
decreases-push_others l = length l.ends.now
