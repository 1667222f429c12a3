-- The algorithm that a chain of upper steps gives.
use Rattle.std.specs.Prelude.{ℕ, List, [], ◌∷◌, find, length, unwrap_or}
use Rattle.re_problem.specs.Problems.{IsProblem, Problem}
use Rattle.re_problem.specs.Steps.{IsUpper}
use Rattle.re_problem.specs.Zero.{Zero, shows_zero}
use Rattle.re_laws.specs.Algorithms.{Plain, SolvesBy}
use Rattle.re_laws.specs.Slow.{slow}

-- a stage: the problem to which a step leads, and for each of that problem's labels the set for which it stands
abbrev pub Stage : Type 0
Stage = Problem × (ℕ → List ℕ)

-- each step is an upper step, and the last problem is Zero
abbrev pub IsUpperBound : Problem → List Stage → Type 0
IsUpperBound problem [] = IsProblem problem × Zero problem
IsUpperBound problem (stage ∷ stages) = IsProblem problem × IsUpper problem stage.0 stage.1 × IsUpperBound stage.0 stages

-- the first active configuration that shows Zero
abbrev pub first_fit : Problem → List ℕ
first_fit problem = unwrap_or (find (shows_zero problem.passive) problem.active.configs) []

-- the algorithm of as many rounds as there are steps: at the last problem each node outputs the first configuration that shows Zero,
-- and each step back takes one round more
abbrev pub extracted : Problem → List Stage → Plain → List ℕ
extracted problem [] = λ v. first_fit problem
extracted problem (stage ∷ stages) = slow problem stage.1 (length stages) (extracted stage.0 stages)

-- it solves the first problem
abbrev pub ExtractLaw : Type 0
ExtractLaw = (problem : Problem) (stages : List Stage) → IsUpperBound problem stages → SolvesBy problem (length stages) (extracted problem stages)
