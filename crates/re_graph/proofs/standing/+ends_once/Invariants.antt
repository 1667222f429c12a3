use Rattle.std.proofs.Common.{length}
use Rattle.re_graph.proofs.standing.+ends_once.Given as goal

abbrev pub decreases-ends_once : goal.decreases-ends_once
decreases-ends_once l = length l.ends.now
