-- Sets of labels between any two of which a path of each kind can be filled (after Balliu, Brandt, Chang, Olivetti, Studený, Suomela, 2022).
use Rattle.std.specs.Prelude.{◌≡◌, ℕ, zero, suc, ◌*◌, Bool, not, List, ◌∷◌, Contains, if◌then◌else◌}
use Rattle.std.specs.List.{AllByRecursion}
use Rattle.re_problem.specs.Problems.{Problem}
use Rattle.re_labels.specs.Constraints.{Constraint, Has}

-- the constraint of the active nodes, or else of the passive ones
abbrev pub side : Problem → Bool → Constraint
side problem active = if active then problem.active else problem.passive

-- x and y stand together in some configuration whose other labels are of the set
abbrev pub Joins : Constraint → List ℕ → ℕ → ℕ → Type 0
Joins constraint set x y = (rest : List ℕ) × AllByRecursion (λ z. Contains set z) rest × Has constraint (x ∷ y ∷ rest)

-- a path through m nodes, active and passive in turn, begins with the label x and ends with y, where all labels around its nodes are of the set
abbrev pub Leads : Problem → List ℕ → Bool → ℕ → ℕ → ℕ → Type 0
Leads problem set active zero x y = x ≡ y
Leads problem set active (suc m) x y = (z : ℕ) × Contains set z × Joins (side problem active) set x z × Leads problem set (not active) m z y

-- a set of labels, not empty, from each to each of which a path through 2 l + 1 nodes leads, whichever kind the first node is of
pub record IsFlexible (problem : Problem) (set : List ℕ) (l : ℕ) : Type 0 where
  pub some : (x : ℕ) × Contains set x
  pub leads : (active : Bool) (x y : ℕ) → Contains set x → Contains set y → Leads problem set active (suc (2 * l)) x y

-- walks through m nodes and through m + 2 nodes lead from x to itself, whichever kind the first node is of, where all labels around their nodes are of
-- the set
pub record Turns (problem : Problem) (set : List ℕ) (x l : ℕ) : Type 0 where
  pub shorter : (active : Bool) → Leads problem set active (suc (2 * l)) x x
  pub longer : (active : Bool) → Leads problem set active (suc (2 * suc l)) x x

-- some path leads from x to y
abbrev pub Reaches : Problem → List ℕ → Bool → ℕ → ℕ → Type 0
Reaches problem set active x y = (m : ℕ) × Leads problem set active m x y

-- x and y are of the set, and paths lead from each to each through an odd number of nodes, and through an even one, of which the first is of either kind
pub record AreJoined (problem : Problem) (set : List ℕ) (x y : ℕ) : Type 0 where
  pub first : Contains set x
  pub second : Contains set y
  pub odd : (active : Bool) → ((l : ℕ) × Leads problem set active (suc (2 * l)) x y) × ((l : ℕ) × Leads problem set active (suc (2 * l)) y x)
  pub even : (active : Bool) → ((l : ℕ) × Leads problem set active (2 * l) x y) × ((l : ℕ) × Leads problem set active (2 * l) y x)

-- a set is flexible where x turns and each of its labels is joined with x; and then each of its labels turns, and is joined with each one
abbrev pub TurningLaw : Type 0
TurningLaw = (problem : Problem) (set : List ℕ) →
    ((x l : ℕ) → Turns problem set x l → ((y : ℕ) → Contains set y → AreJoined problem set x y) → Contains set x → (k : ℕ) × IsFlexible problem set k)
    × ((k : ℕ) → IsFlexible problem set k → (x y : ℕ) → Contains set x → Contains set y → ((l : ℕ) × Turns problem set x l) × AreJoined problem set x y)
