-- What may be said of a text of a bound and an input problem.
use Rattle.std.proofs.Common.{Bool, true, false, List, ℕ, length, nat_lt}
use Rattle.std.specs.Prelude.{if◌then◌else◌}
use Rattle.re_cert.specs.Bounds.{Bound}
use Rattle.re_frame.specs.Outcomes.{done, too_long, within_limit}
use Rattle.re_frame.specs.Runs.{MaySay}
use Rattle.re_io.specs.declared.read.TheConstants.{MAX_BYTES}
use Rattle.re_problem.specs.NamedProblems.{NamedProblem}
use Rattle.re_chains.specs.GivenTexts.{given_text, given_text_outcome}

limited_says : (over : Bool) (text : List ℕ) (judging : Bool) → MaySay (if over then too_long else done text).status judging
limited_says true text judging = tt
limited_says false text judging = tt

pub given_text_says : (bound : Bound) (input : NamedProblem) (judging : Bool) → MaySay (given_text_outcome bound input).status judging
unfolding within_limit
given_text_says bound input judging = limited_says (nat_lt MAX_BYTES (length (given_text bound input))) (given_text bound input) judging
