-- The lines of limits that a step passes.
use Rattle.std.specs.Prelude.{ℕ, List, ◌++◌, codes, Option, Some, None}
use Rattle.std.specs.Fmt.{decimal}
use Rattle.re_step.specs.declared.derivation.StepLimit.{StepLimit}
use Rattle.re_step.specs.declared.derivation.StepLimit.TheVariants.{Configurations, Labels, Rows}
use Rattle.re_frame.specs.Outcomes.{Outcome, limit}

-- the line of a limit that the step of this number passes
abbrev pub limit_line : ℕ → StepLimit → List ℕ
limit_line number Rows = codes "limit: step " ++ decimal number ++ codes ": more than 1024 rows\n"
limit_line number (Labels count) = codes "limit: step " ++ decimal number ++ codes ": more than 128 labels: " ++ decimal count ++ codes "\n"
limit_line number Configurations = codes "limit: step " ++ decimal number ++ codes ": more than 1048576 configurations\n"

-- the limit of the step of this number, if it passes one, and else what follows
abbrev pub or_limit : ℕ → Option StepLimit → Outcome → Outcome
or_limit number (Some passed) outcome = limit (limit_line number passed)
or_limit number None outcome = outcome
