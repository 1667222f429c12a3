use Rattle.std.proofs.Common.{◌≡◌, length}
use Rattle.re_problem.specs.ProblemTexts.{lines_of}
use Rattle.re_chains.specs.ChainTexts.{begins_section}
use Rattle.re_chains.proofs.chain_text.is_certificate_text.Given as goal

-- no line before the rest that isn't empty
abbrev pub invariant-lines : goal.invariant-lines
invariant-lines l = begins_section (lines_of l.text) ≡ begins_section (lines_of l.rest)

abbrev pub decreases-lines : goal.decreases-lines
decreases-lines l = length l.rest
