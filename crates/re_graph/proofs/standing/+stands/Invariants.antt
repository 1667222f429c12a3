use Rattle.std.proofs.Common.{length}
use Rattle.re_graph.proofs.standing.+stands.Given as goal

abbrev pub decreases-stands : goal.decreases-stands
decreases-stands l = length l.passive.now
