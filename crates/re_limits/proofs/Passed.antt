-- What a command may answer where a step passes a limit.
use Rattle.std.proofs.Common.{ℕ, Bool, Option, Some, None}
use Rattle.re_frame.specs.Outcomes.{Outcome}
use Rattle.re_frame.specs.Runs.{MaySay}
use Rattle.re_step.specs.declared.derivation.StepLimit.{StepLimit}
use Rattle.re_limits.specs.StepLimits.{or_limit}

pub passed : (number : ℕ) (first : Option StepLimit) (outcome : Outcome) (judging : Bool) → MaySay outcome.status judging → MaySay (or_limit number first outcome).status judging
passed number (Some first) outcome judging says = tt
passed number None outcome judging says = says
