-- What identifiers help: nothing, in a fixed number of rounds and with enough of them.
use Rattle.std.specs.Prelude.{ℕ, List, ◌↔◌}
use Rattle.re_cover.specs.Graphs.{IsGraphOf, IsSolution, PortGraph}
use Rattle.re_laws.specs.Algorithms.{Solvable}
use Rattle.re_local.specs.LocalAlgorithms.{SolvableLocal}
use Rattle.re_problem.specs.Problems.{IsProblem, Problem}
use Rattle.re_local.specs.SeparatingLaws.{IsBeyondLocal}

-- for each problem and number of rounds there is a number of identifiers such that what a local algorithm solves with so many, an algorithm
-- solves with port numbers alone
abbrev pub IdentifiersNoUseLaw : Type 0
IdentifiersNoUseLaw = (problem : Problem) (T : ℕ) → IsProblem problem → (N : ℕ) × (SolvableLocal problem N T → Solvable problem T)

-- a local algorithm need take no notice of the identifiers
abbrev pub PortsAreEnoughLaw : Type 0
PortsAreEnoughLaw = (problem : Problem) (N T : ℕ) → Solvable problem T → SolvableLocal problem N T

-- so T rounds solve a problem with port numbers alone exactly where they do with different identifiers, however many of these there are
abbrev pub AnyIdentifiersLaw : Type 0
AnyIdentifiersLaw = (problem : Problem) (T : ℕ) → IsProblem problem → Solvable problem T ↔ ((N : ℕ) → SolvableLocal problem N T)

-- from some number of identifiers on no local algorithm of T rounds solves a problem, exactly where none does with port numbers alone
abbrev pub BeyondLocalLaw : Type 0
BeyondLocalLaw = (problem : Problem) (T : ℕ) → IsProblem problem → IsBeyondLocal problem T ↔ (Solvable problem T → ⊥)

-- where some finite graph has no solution, the problem is beyond local algorithms of any number of rounds
abbrev pub NoSolutionLocalLaw : Type 0
NoSolutionLocalLaw = (problem : Problem) (graph : PortGraph) (T : ℕ) → IsProblem problem → IsGraphOf problem graph →
    ((labels : List (List ℕ)) → IsSolution problem graph labels → ⊥) → IsBeyondLocal problem T
