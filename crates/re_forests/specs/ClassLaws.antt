-- What decides the classes of problems on finite forests, and which classes are apart.
use Rattle.std.specs.Prelude.{◌≡◌, ℕ, ◌↔◌, List, Contains}
use Rattle.re_classes.specs.Classes.{IsAboveLog, IsAboveLogStar, IsBelowLogStar}
use Rattle.re_classes.specs.Laws.{IsSolvableColoured}
use Rattle.re_forests.specs.Flexible.{IsFlexible}
use Rattle.re_forests.specs.Trimmed.{HasTwoLevels, IsTrimmed}
use Rattle.re_forests.specs.Classes.{HasNoSolution, IsAboveLinear, IsAboveLogOnForests, IsAboveLogStarOnForests, IsBelowLinear, IsBelowLogOnForests, IsBelowLogStarOnForests, IsConstantOnForests}
use Rattle.re_laws.specs.Algorithms.{Solvable}
use Rattle.re_problem.specs.Problems.{IsProblem, Problem}

-- a problem takes a constant number of rounds on forests exactly where some number is enough with port numbers alone
abbrev pub ConstantLaw : Type 0
ConstantLaw = (problem : Problem) → IsProblem problem → IsConstantOnForests problem ↔ ((k : ℕ) × Solvable problem k)

-- what doesn't take a constant number of rounds takes at least log* N, less a constant
abbrev pub NothingBetweenLaw : Type 0
NothingBetweenLaw = (problem : Problem) → IsProblem problem → (IsConstantOnForests problem → ⊥) ↔ IsAboveLogStarOnForests problem

-- bounds below for local algorithms that see the identifiers of active nodes alone are such bounds on forests
abbrev pub AboveLaw : Type 0
AboveLaw = (problem : Problem) → IsProblem problem →
    (IsAboveLogStar problem → IsAboveLogStarOnForests problem) × (IsAboveLog problem → IsAboveLogOnForests problem)

-- and so is the bound above of log* N
abbrev pub BelowLaw : Type 0
BelowLaw = (problem : Problem) → IsProblem problem → IsBelowLogStar problem → IsBelowLogStarOnForests problem

-- what is solvable given few colours takes at most the order of log* N rounds
abbrev pub BelowLogStarLaw : Type 0
BelowLogStarLaw = (problem : Problem) → IsProblem problem → IsSolvableColoured problem → IsBelowLogStarOnForests problem

-- a problem with a flexible set of labels takes at most the order of log N rounds
abbrev pub BelowLogLaw : Type 0
BelowLogLaw = (problem : Problem) (set : List ℕ) (l : ℕ) → IsProblem problem → IsFlexible problem set l → IsBelowLogOnForests problem

-- one with a trimmed set that isn't empty takes at most the order of N rounds
abbrev pub BelowLinearLaw : Type 0
BelowLinearLaw = (problem : Problem) (set : List ℕ) (x : ℕ) → IsProblem problem → IsTrimmed problem set → Contains set x → IsBelowLinear problem

-- one that hasn't two levels of labels takes at least the order of N rounds
abbrev pub AboveLinearLaw : Type 0
AboveLinearLaw = (problem : Problem) → IsProblem problem → (HasTwoLevels problem → ⊥) → IsAboveLinear problem

-- one without such a trimmed set has no solution
abbrev pub NeverLaw : Type 0
NeverLaw = (problem : Problem) → IsProblem problem → ((set : List ℕ) (x : ℕ) → IsTrimmed problem set → Contains set x → ⊥) → HasNoSolution problem

-- on paths one with a flexible set of labels takes at most the order of log* N rounds, and one without takes at least the order of N
abbrev pub PathsLaw : Type 0
PathsLaw = (problem : Problem) → IsProblem problem → problem.active.degree ≡ 2 → problem.passive.degree ≡ 2 →
    ((set : List ℕ) (l : ℕ) → IsFlexible problem set l → IsBelowLogStarOnForests problem)
    × (((set : List ℕ) (l : ℕ) → IsFlexible problem set l → ⊥) → IsAboveLinear problem)

-- no problem takes a constant number of rounds and at least the order of log* N, nor at most the order of log* N and at least that of log N, nor at
-- most the order of log N and at least that of N; and what has no solution has no bound above
abbrev pub ApartLaw : Type 0
ApartLaw = (problem : Problem) →
    (IsConstantOnForests problem → IsAboveLogStarOnForests problem → ⊥)
    × (IsBelowLogStarOnForests problem → IsAboveLogOnForests problem → ⊥)
    × (IsBelowLogOnForests problem → IsAboveLinear problem → ⊥)
    × (HasNoSolution problem →
    (IsConstantOnForests problem → ⊥) × (IsBelowLogStarOnForests problem → ⊥) × (IsBelowLogOnForests problem → ⊥) × (IsBelowLinear problem → ⊥))

-- each bound gives the next weaker one: above from constant to the order of N, and below from no solution to the order of log* N
abbrev pub WeakerLaw : Type 0
WeakerLaw = (problem : Problem) →
    (IsConstantOnForests problem → IsBelowLogStarOnForests problem)
    × (IsBelowLogStarOnForests problem → IsBelowLogOnForests problem)
    × (IsBelowLogOnForests problem → IsBelowLinear problem)
    × (HasNoSolution problem → IsAboveLinear problem)
    × (IsAboveLinear problem → IsAboveLogOnForests problem)
    × (IsAboveLogOnForests problem → IsAboveLogStarOnForests problem)
