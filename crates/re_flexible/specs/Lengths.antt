-- Levels of labels, each flexible within the one below it, and how many a problem has (after Balliu, Brandt, Chang, Olivetti, Studený, Suomela, 2022).
use Rattle.std.specs.Prelude.{ℕ, suc, ◌<◌, ◌≤◌, ◌↔◌, List, Contains, MatchOption, Option}
use Rattle.re_forests.specs.Flexible.{IsFlexible}
use Rattle.re_forests.specs.Trimmed.{HasTwoLevels, IsFlexibleWithin, IsTrimmed}
use Rattle.re_problem.specs.Problems.{IsProblem, Problem}
use Rattle.re_flexible.specs.declared.levels.Flexibility.{Flexibility}
use Rattle.re_flexible.specs.declared.levels.Flexibility.TheVariants.{Flexible, Length, NoSolution}

-- the set is flexible
abbrev pub IsFlexibleSet : Problem → List ℕ → Type 0
IsFlexibleSet problem set = (l : ℕ) × IsFlexible problem set l

-- the set is the greatest flexible one with the least of all labels that flexible sets have
pub record IsFirstFlexible (problem : Problem) (set : List ℕ) : Type 0 where
  pub flexible : IsFlexibleSet problem set
  pub first : (x : ℕ) × Contains set x × ((other : List ℕ) (y : ℕ) → IsFlexibleSet problem other → Contains other y → x ≤ y)
  pub greatest : (other : List ℕ) (x y : ℕ) → IsFlexibleSet problem other → Contains other x → Contains set x → Contains other y → Contains set y

-- the first k of the sets are trimmed and not empty, and each next one is flexible within the one before it
pub record AreLevels (problem : Problem) (k : ℕ) (level : ℕ → List ℕ) : Type 0 where
  pub some : (i : ℕ) → i < k → (x : ℕ) × Contains (level i) x
  pub trimmed : (i : ℕ) → i < k → IsTrimmed problem (level i)
  pub flexible : (i : ℕ) → suc i < k → (l : ℕ) × IsFlexibleWithin problem (level (suc i)) (level i) l

-- some k sets do so
abbrev pub HasLevels : Problem → ℕ → Type 0
HasLevels problem k = (level : ℕ → List ℕ) × AreLevels problem k level

-- k is the greatest number of levels
pub record IsLength (problem : Problem) (k : ℕ) : Type 0 where
  pub levels : HasLevels problem k
  pub greatest : HasLevels problem (suc k) → ⊥

-- that flexible set; or no set is flexible, and the number of levels, at least one; or no trimmed set has a label
abbrev pub IsFlexibility : Problem → Flexibility → Type 0
IsFlexibility problem (Flexible set) = IsFirstFlexible problem set
IsFlexibility problem (Length k) = (1 ≤ k) × IsLength problem k × ((set : List ℕ) → IsFlexibleSet problem set → ⊥)
IsFlexibility problem NoSolution = (set : List ℕ) (x : ℕ) → IsTrimmed problem set → Contains set x → ⊥

-- that flexible set, or none where there is none
abbrev pub IsFound : Problem → Option (List ℕ) → Type 0
IsFound problem answer = MatchOption answer ((set : List ℕ) → IsFlexibleSet problem set → ⊥) (λ found. IsFirstFlexible problem found)

-- no two sets are that flexible set
abbrev pub OneFirstLaw : Type 0
OneFirstLaw = (problem : Problem) (set other : List ℕ) → IsFirstFlexible problem set → IsFirstFlexible problem other
    → ((x : ℕ) → Contains set x → Contains other x) × ((x : ℕ) → Contains other x → Contains set x)

-- a flexible set gives any number of levels, and no other problem has more levels than labels
abbrev pub EndlessLaw : Type 0
EndlessLaw = (problem : Problem) → IsProblem problem →
    (((set : List ℕ) × IsFlexibleSet problem set) → (k : ℕ) → HasLevels problem k)
    × (HasLevels problem (suc problem.labels) → (set : List ℕ) × IsFlexibleSet problem set)

-- there is no level exactly where no trimmed set has a label, one exactly where some has and there aren't two
abbrev pub FewLevelsLaw : Type 0
FewLevelsLaw = (problem : Problem) →
    (IsLength problem 0 ↔ ((set : List ℕ) (x : ℕ) → IsTrimmed problem set → Contains set x → ⊥))
    × (HasLevels problem 2 ↔ HasTwoLevels problem)
    × (IsLength problem 1 ↔ (((set : List ℕ) × (x : ℕ) × IsTrimmed problem set × Contains set x) × (HasTwoLevels problem → ⊥)))
