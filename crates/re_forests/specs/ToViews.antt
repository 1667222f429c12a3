-- The laws that carry over what is proved of local algorithms on views to those on finite forests.
use Rattle.std.specs.Prelude.{ℕ, ◌+◌, ◌*◌, ◌≤◌}
use Rattle.re_classes.specs.Classes.{IsAboveLog, IsAboveLogStar, IsMoreThanConstant}
use Rattle.re_forests.specs.Classes.{IsAboveLogOnForests, IsAboveLogStarOnForests}
use Rattle.re_forests.specs.OnForests.{SolvableOnForests}
use Rattle.re_local.specs.LocalAlgorithms.{SolvableLocal}
use Rattle.re_problem.specs.Problems.{IsProblem, Problem}

-- what a local algorithm solves in T rounds on forests, whose nodes all have identifiers, is solved in T + 1 rounds where only active nodes have
-- one, if forests have a + 1 identifiers for each of these
abbrev pub LinkLaw : Type 0
LinkLaw = (problem : Problem) (N T : ℕ) → IsProblem problem →
    SolvableOnForests problem ((1 + problem.active.degree) * N) T → SolvableLocal problem N (T + 1)

-- more identifiers make it no easier
abbrev pub FewerOnForestsLaw : Type 0
FewerOnForestsLaw = (problem : Problem) (N more T : ℕ) → N ≤ more → SolvableOnForests problem more T → SolvableOnForests problem N T

-- from some number N of identifiers on, no local algorithm of T rounds solves the problem on forests
abbrev pub IsBeyondForests : Problem → ℕ → Type 0
IsBeyondForests problem T = (N : ℕ) × ((more : ℕ) → N ≤ more → SolvableOnForests problem more T → ⊥)

-- on forests it takes more than any constant number of rounds, with enough identifiers
abbrev pub IsMoreThanConstantOnForests : Problem → Type 0
IsMoreThanConstantOnForests problem = (T : ℕ) → IsBeyondForests problem T

-- bounds below carry over
abbrev pub MoreThanConstantOnForestsLaw : Type 0
MoreThanConstantOnForestsLaw = (problem : Problem) → IsProblem problem → IsMoreThanConstant problem → IsMoreThanConstantOnForests problem

abbrev pub AboveLogOnForestsLaw : Type 0
AboveLogOnForestsLaw = (problem : Problem) → IsProblem problem → IsAboveLog problem → IsAboveLogOnForests problem

abbrev pub AboveLogStarOnForestsLaw : Type 0
AboveLogStarOnForestsLaw = (problem : Problem) → IsProblem problem → IsAboveLogStar problem → IsAboveLogStarOnForests problem
