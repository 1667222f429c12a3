-- What an accepted upper bound is made of.
use Rattle.std.specs.Prelude.{◌≡◌, ℕ, true}
use Rattle.std.specs.List.{AllByRecursion}
use Rattle.re_problem.specs.NamedProblems.{IsNamedProblem, unnamed}
use Rattle.re_laws.specs.Extracted.{IsUpperBound}
use Rattle.re_cert.specs.Bounds.{Bound, is_bound, next_problems}
use Rattle.re_cert.specs.Stages.{stages_of}
use Rattle.re_cert.specs.declared.certificate.Kind.TheVariants.{Upper}
use Rattle.re_check.specs.Verdicts.{verdict_of}
use Rattle.re_check.specs.declared.verdict.Verdict.TheVariants.{Accepted}

-- where it is accepted as an upper bound, it is a chain of upper steps to a problem that is Zero
abbrev pub IsUpperWhereAccepted : Bound → Type 0
IsUpperWhereAccepted bound = (steps : ℕ) → verdict_of bound ≡ Accepted Upper steps → IsUpperBound (unnamed bound.first) (stages_of bound.steps)

-- this holds of each bound that stands over problems
abbrev pub UpperLaw : Type 0
UpperLaw = (bound : Bound) → is_bound bound ≡ true → IsNamedProblem bound.first → AllByRecursion IsNamedProblem (next_problems bound.steps) → IsUpperWhereAccepted bound
