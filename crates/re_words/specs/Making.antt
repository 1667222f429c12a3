-- The commands that read nothing: `family` and `make`.
use Rattle.std.specs.Prelude.{ℕ, List, ◌++◌, codes, length}
use Rattle.std.specs.Fmt.{decimal}
use Rattle.re_check.specs.Verdicts.{verdict_of}
use Rattle.re_families.specs.Families.{family_of}
use Rattle.re_families.specs.declared.types.Family.TheVariants.{Colouring}
use Rattle.re_problem.specs.CanonicalTexts.{canonical}
use Rattle.re_problem.specs.NamedProblems.{NamedProblem, unnamed}
use Rattle.re_search.specs.OneStep.{one_step_bound}
use Rattle.re_step.specs.Derivations.{named_derived, step_limit}
use Rattle.re_frame.specs.Check.{verdict_outcome}
use Rattle.re_frame.specs.Outcomes.{Outcome, done}
use Rattle.re_limits.specs.StepLimits.{or_limit}
use Rattle.re_words.specs.declared.command.Making.{Making}
use Rattle.re_words.specs.declared.command.Making.TheVariants.{OfFamily, OneStep}

-- how many labels, active configurations, which are the rows of the step to it, and passive configurations a derived problem has, one number a line
abbrev pub sizes_text : NamedProblem → List ℕ
sizes_text problem =
    codes "labels " ++ decimal (length problem.names) ++ codes "\nrows " ++ decimal (length problem.active.configs) ++ codes "\nconfigurations " ++ decimal (length problem.passive.configs) ++ codes "\n"

-- an outcome with more text before its own
abbrev pub behind : List ℕ → Outcome → Outcome
behind text outcome = record { status = outcome.status; text = text ++ outcome.text }

-- the sizes of the derived problem, and the verdict on the certificate of the step to it, which sends each set to its own label, unless the step passes a limit
unfoldable pub one_step_outcome : NamedProblem → Outcome
one_step_outcome problem =
    or_limit 1 (step_limit (unnamed problem)) (behind (sizes_text (named_derived (unnamed problem))) (verdict_outcome (verdict_of (one_step_bound problem))))

-- the problem of a family, or one step from the problem of so many colours around active nodes of degree 3, where edges join two of them
unfoldable pub making_outcome : Making → Outcome
making_outcome (OfFamily kind active passive number) = done (canonical (family_of kind active passive number))
making_outcome (OneStep colours) = one_step_outcome (family_of Colouring 3 2 colours)
