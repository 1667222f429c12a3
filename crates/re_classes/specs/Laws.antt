-- What decides the class of a problem, and which classes are apart.
use Rattle.std.specs.Prelude.{ℕ, ◌+◌, ◌-◌, ◌*◌, ◌↔◌}
use Rattle.re_classes.specs.Classes.{IsAboveLog, IsAboveLogStar, IsBelowLogStar, IsConstantLocal, IsMoreThanConstant, IsOrderLogStar}
use Rattle.re_given.specs.Given.{SolvableGiven}
use Rattle.re_given.specs.Unavoidable.{colouring}
use Rattle.re_laws.specs.Algorithms.{Solvable}
use Rattle.re_problem.specs.Problems.{IsProblem, Problem}

-- no number of rounds is enough with port numbers alone
abbrev pub IsUnsolvable : Problem → Type 0
IsUnsolvable problem = (S : ℕ) → Solvable problem S → ⊥

-- some number of rounds is enough given a proper colouring with one colour more than an active node has neighbours
abbrev pub IsSolvableColoured : Problem → Type 0
IsSolvableColoured problem = let a : ℕ = problem.active.degree in let p : ℕ = problem.passive.degree in
    (k : ℕ) × SolvableGiven problem (colouring a p (a * (p - 1) + 1)) k

-- a problem takes a constant number of rounds exactly where some number is enough with port numbers alone
abbrev pub ConstantLaw : Type 0
ConstantLaw = (problem : Problem) → IsProblem problem → IsConstantLocal problem ↔ ((k : ℕ) × Solvable problem k)

-- and more than any constant exactly where none is
abbrev pub MoreThanConstantLaw : Type 0
MoreThanConstantLaw = (problem : Problem) → IsProblem problem → IsMoreThanConstant problem ↔ IsUnsolvable problem

-- it then takes at least log* N rounds less a constant
abbrev pub AboveLogStarLaw : Type 0
AboveLogStarLaw = (problem : Problem) → IsProblem problem → IsUnsolvable problem → IsAboveLogStar problem

-- what is solvable given few colours takes at most the order of log* N rounds
abbrev pub BelowLogStarLaw : Type 0
BelowLogStarLaw = (problem : Problem) → IsProblem problem → IsSolvableColoured problem → IsBelowLogStar problem

-- what is solvable given few colours, but in no number of rounds with port numbers alone, takes the order of log* N
abbrev pub OrderLogStarLaw : Type 0
OrderLogStarLaw = (problem : Problem) → IsProblem problem → IsUnsolvable problem → IsSolvableColoured problem → IsOrderLogStar problem

-- nothing lies between: what doesn't take a constant number of rounds takes more than any constant, and at least log* N less a constant
abbrev pub NothingBetweenLaw : Type 0
NothingBetweenLaw = (problem : Problem) → IsProblem problem →
    ((IsConstantLocal problem → ⊥) ↔ IsMoreThanConstant problem) × ((IsConstantLocal problem → ⊥) ↔ IsAboveLogStar problem)

-- what takes at least the order of log N rounds takes at least log* N less a constant; what takes so many takes more than any constant; and what
-- takes a constant number takes at most the order of log* N
abbrev pub WeakerLaw : Type 0
WeakerLaw = (problem : Problem) →
    (IsAboveLog problem → IsAboveLogStar problem) × (IsAboveLogStar problem → IsMoreThanConstant problem) × (IsConstantLocal problem → IsBelowLogStar problem)

-- no problem takes a constant number of rounds and more than any constant, nor at most the order of log* N rounds and at least that of log N
abbrev pub ApartLaw : Type 0
ApartLaw = (problem : Problem) →
    (IsConstantLocal problem → IsMoreThanConstant problem → ⊥) × (IsBelowLogStar problem → IsAboveLog problem → ⊥)
