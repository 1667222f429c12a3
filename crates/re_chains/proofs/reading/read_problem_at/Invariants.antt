use Rattle.std.proofs.Common.{length}
use Rattle.re_chains.proofs.ProblemLines.{ReadSoFar}
use Rattle.re_chains.proofs.reading.read_problem_at.Given as goal

-- the reader stands for the lines in front of the rest
abbrev pub invariant-lines : goal.invariant-lines
invariant-lines l = ReadSoFar l.reader l.byte l.number l.text l.current l.rest

abbrev pub decreases-lines : goal.decreases-lines
decreases-lines l = length l.rest
