use Rattle.std.proofs.Common.{length}
use Rattle.re_graph.proofs.standing.+all_ends.Given as goal

abbrev pub decreases-all_ends : goal.decreases-all_ends
decreases-all_ends l = length l.passive.now
