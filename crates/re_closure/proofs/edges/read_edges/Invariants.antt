use Rattle.std.proofs.Common.{length}
use Rattle.re_closure.proofs.EdgeLines.{EdgesSoFar}
use Rattle.re_closure.proofs.edges.read_edges.Given as goal

-- the edges of the lines in front of the rest
abbrev pub invariant-lines : goal.invariant-lines
invariant-lines l = EdgesSoFar l.names l.byte l.number l.text l.edges.items l.at l.current l.rest

abbrev pub decreases-lines : goal.decreases-lines
decreases-lines l = length l.rest
