use Rattle.std.proofs.Common.{length}
use Rattle.re_graph.proofs.standing.+standing_from.Given as goal

-- proposed from what the function passes where it calls itself
abbrev pub decreases-standing_from : goal.decreases-standing_from
decreases-standing_from l = length l.passive.now
