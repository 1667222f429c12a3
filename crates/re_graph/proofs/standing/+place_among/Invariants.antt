use Rattle.std.proofs.Common.{length}
use Rattle.re_graph.proofs.standing.+place_among.Given as goal

abbrev pub decreases-place_among : goal.decreases-place_among
decreases-place_among l = length l.ends.now
