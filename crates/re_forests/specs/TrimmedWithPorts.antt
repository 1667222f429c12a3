-- The laws of trimmed problems: with port numbers alone.
use Rattle.std.specs.Prelude.{ℕ, ◌↔◌, List, Contains}
use Rattle.re_forests.specs.Trimmed.{IsTrimmed}
use Rattle.re_forests.specs.TrimmedSets.{trimmed_problem}
use Rattle.re_laws.specs.Algorithms.{Solvable}
use Rattle.re_problem.specs.Problems.{IsProblem, Problem}

-- the configurations with labels outside the greatest trimmed set are of no use: without them as many rounds solve the problem
abbrev pub TrimmedProblemLaw : Type 0
TrimmedProblemLaw = (problem : Problem) (T : ℕ) → IsProblem problem → Solvable problem T ↔ Solvable (trimmed_problem problem) T

-- where no trimmed set has a label, no number of rounds solves the problem
abbrev pub NothingLeftLaw : Type 0
NothingLeftLaw = (problem : Problem) (T : ℕ) → IsProblem problem → ((set : List ℕ) (x : ℕ) → IsTrimmed problem set → Contains set x → ⊥) →
    Solvable problem T → ⊥
