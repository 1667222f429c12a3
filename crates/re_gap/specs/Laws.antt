-- The gap on forests: no problem takes more than the order of log* N rounds and less than that of log N.
use Rattle.std.specs.Prelude.{ℕ, ◌+◌, ◌^◌, ◌≤◌, ◌↔◌, List}
use Rattle.re_classes.specs.Classes.{IsAboveLog}
use Rattle.re_forests.specs.Flexible.{IsFlexible}
use Rattle.re_forests.specs.OnForests.{SolvableOnForests}
use Rattle.re_forests.specs.Classes.{IsAboveLogOnForests, IsBelowLogStarOnForests}
use Rattle.re_problem.specs.Problems.{IsProblem, Problem}

-- some set of labels is flexible
abbrev pub HasFlexible : Problem → Type 0
HasFlexible problem = (set : List ℕ) × (l : ℕ) × IsFlexible problem set l

-- for one constant C: what is solved in T rounds with some N ≥ C ^ (T + 1) takes at most the order of log* N rounds, and has a flexible set
abbrev pub GapLaw : Type 0
GapLaw = (C : ℕ) × ((problem : Problem) (N T : ℕ) → IsProblem problem → C ^ (T + 1) ≤ N → SolvableOnForests problem N T →
    IsBelowLogStarOnForests problem × HasFlexible problem)

-- what has no flexible set takes at least the order of log N rounds
abbrev pub NotFlexibleLaw : Type 0
NotFlexibleLaw = (problem : Problem) → IsProblem problem → (HasFlexible problem → ⊥) → IsAboveLogOnForests problem

-- what takes at most the order of log* N rounds has a flexible set
abbrev pub FlexibleLaw : Type 0
FlexibleLaw = (problem : Problem) → IsProblem problem → IsBelowLogStarOnForests problem → HasFlexible problem

-- what doesn't take at most the order of log* N rounds takes at least that of log N
abbrev pub BetweenLogsLaw : Type 0
BetweenLogsLaw = (problem : Problem) → IsProblem problem → (IsBelowLogStarOnForests problem → ⊥) ↔ IsAboveLogOnForests problem

-- what takes at least the order of log N rounds on forests does so on infinite trees, where active nodes alone have identifiers
abbrev pub AboveLogOnViewsLaw : Type 0
AboveLogOnViewsLaw = (problem : Problem) → IsProblem problem → IsAboveLogOnForests problem → IsAboveLog problem
