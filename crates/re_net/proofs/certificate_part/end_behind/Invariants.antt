use Rattle.std.proofs.Common.{length}
use Rattle.re_net.proofs.FrontLines.{Fed}
use Rattle.re_net.proofs.certificate_part.end_behind.Given as goal

-- what was fed is the certificate so far, without its end
abbrev pub invariant-lines : goal.invariant-lines
invariant-lines l = Fed l.text l.reader l.rest l.number

abbrev pub decreases-lines : goal.decreases-lines
decreases-lines l = length l.rest
