-- Trimmed sets of labels, and sets flexible within others (after Balliu, Brandt, Chang, Olivetti, Studený, Suomela, 2022).
use Rattle.std.specs.Prelude.{ℕ, suc, ◌+◌, ◌*◌, ◌≤◌, Bool, List, Contains}
use Rattle.re_forests.specs.Flexible.{Joins, Leads, side}
use Rattle.re_forests.specs.OnForests.{SolvableOnForests}
use Rattle.re_problem.specs.Problems.{IsProblem, Problem}

-- each label of the set stands, on either side, in some configuration of labels of the set
abbrev pub IsTrimmed : Problem → List ℕ → Type 0
IsTrimmed problem set = (active : Bool) (x : ℕ) → Contains set x → (y : ℕ) × Contains set y × Joins (side problem active) set x y

-- a part of the whole set, not empty, from each to each of which a path through 2 l + 1 nodes leads, within the whole set
pub record IsFlexibleWithin (problem : Problem) (set whole : List ℕ) (l : ℕ) : Type 0 where
  pub some : (x : ℕ) × Contains set x
  pub part : (x : ℕ) → Contains set x → Contains whole x
  pub leads : (active : Bool) (x y : ℕ) → Contains set x → Contains set y → Leads problem whole active (suc (2 * l)) x y

-- a trimmed set, and another, not empty, that is flexible within it
pub record HasTwoLevels (problem : Problem) : Type 0 where
  pub lower : List ℕ
  pub upper : List ℕ
  pub l : ℕ
  pub lower_trimmed : IsTrimmed problem lower
  pub upper_trimmed : IsTrimmed problem upper
  pub flexible : IsFlexibleWithin problem upper lower l

-- what hasn't two levels takes at least the order of N rounds
abbrev pub LinearLaw : Type 0
LinearLaw = (problem : Problem) → IsProblem problem → (M : ℕ) × ((N T : ℕ) → M * (T + 4) ≤ N → SolvableOnForests problem N T → HasTwoLevels problem)

-- what has a trimmed set that isn't empty takes at most the order of N rounds
abbrev pub AllSeenLaw : Type 0
AllSeenLaw = (problem : Problem) (set : List ℕ) (x : ℕ) → IsProblem problem → IsTrimmed problem set → Contains set x →
    (K : ℕ) × ((N : ℕ) → SolvableOnForests problem N (K * suc N))

-- where no trimmed set has a label, enough nodes have no solution, whatever is seen
abbrev pub NoSolutionLaw : Type 0
NoSolutionLaw = (problem : Problem) → IsProblem problem → ((set : List ℕ) (x : ℕ) → IsTrimmed problem set → Contains set x → ⊥) →
    (M : ℕ) × ((N T : ℕ) → M ≤ N → SolvableOnForests problem N T → ⊥)
