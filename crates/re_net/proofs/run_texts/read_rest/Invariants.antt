use Rattle.std.proofs.Common.{length}
use Rattle.re_net.proofs.RestLines.{ReadSoFar}
use Rattle.re_net.proofs.run_texts.read_rest.Given as goal

-- what is held is the state behind the lines in front of the rest
abbrev pub invariant-lines : goal.invariant-lines
invariant-lines l = ReadSoFar l.certificate l.size l.first l.text l.place l.number l.rest

abbrev pub decreases-lines : goal.decreases-lines
decreases-lines l = length l.rest
