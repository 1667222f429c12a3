use Rattle.std.proofs.Common.{length}
use Rattle.re_chains.proofs.CutLines.{CutSoFar}
use Rattle.re_chains.proofs.cutting.cut_at.Given as goal

-- none of the lines in front of the rest names what follows
abbrev pub invariant-lines : goal.invariant-lines
invariant-lines l = CutSoFar l.name l.text l.byte l.number l.rest

abbrev pub decreases-lines : goal.decreases-lines
decreases-lines l = length l.rest
