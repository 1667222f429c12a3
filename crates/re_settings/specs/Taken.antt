-- Bounds that `given` accepts, and what few tries tell of the last problem of one.
use Rattle.std.specs.Prelude.{◌≡◌, Option, None, Some}
use Rattle.re_cert.specs.Bounds.{Bound}
use Rattle.re_frame.specs.Outcomes.{outcome_of}
use Rattle.re_frame.specs.declared.output.Output.{Output}
use Rattle.re_given.specs.Given.{ZeroGiven}
use Rattle.re_given.specs.Inputs.{IsInput}
use Rattle.re_problem.specs.NamedProblems.{NamedProblem}
use Rattle.re_problem.specs.Problems.{Problem}
use Rattle.re_settings.specs.Verdicts.{accepted, given_outcome}
use Rattle.re_settings.specs.declared.ends.Ends.{Ends}
use Rattle.re_settings.specs.declared.ends.Ends.TheVariants.{Solvable, Unknown, Unsolvable}
use Rattle.re_settings.specs.declared.bound_words.BoundWord.TheVariants.{Given}

-- `given` accepts the bound given the input problem
abbrev pub IsTaken : NamedProblem → Bound → Type 0
IsTaken input bound = given_outcome Given input bound ≡ accepted bound

-- the answer of `given` to a bound, and nothing exactly where it accepts it
abbrev pub Refuses : NamedProblem → Bound → Option Output → Type 0
Refuses input bound None = IsTaken input bound
Refuses input bound (Some output) = (IsTaken input bound → ⊥) × (outcome_of output ≡ given_outcome Given input bound)

-- the two degrees are those of the problem
abbrev pub HasDegrees : Problem → Problem → Type 0
HasDegrees problem input = (input.active.degree ≡ problem.active.degree) × (input.passive.degree ≡ problem.passive.degree)

-- what few tries tell of a problem given an input problem: that it is solvable in 0 rounds, or that it isn't; or they don't tell, or it is no input problem
abbrev pub Tells : Problem → Problem → Ends → Type 0
Tells problem input Solvable = IsInput problem input × ZeroGiven problem input
Tells problem input Unsolvable = IsInput problem input × (ZeroGiven problem input → ⊥)
Tells problem input Unknown = Unit {0}
