-- Sets of labels that have no label in common, in a table that has for each label the set that it is in, or the empty one.
use Rattle.std.specs.Prelude.{◌≡◌, ℕ, suc, ◌*◌, ◌≤◌, true, false, ◌↔◌, List, [], Contains, MatchOption, Option, slice_index_or}
use Rattle.re_forests.specs.Flexible.{AreJoined, Joins, Leads, Turns}
use Rattle.re_forests.specs.Trimmed.{IsFlexibleWithin, IsTrimmed}
use Rattle.re_labels.specs.Sets.{IsIn}
use Rattle.re_problem.specs.Problems.{Problem}
use Rattle.re_labels.specs.Constraints.{Constraint}
use Rattle.re_flexible.specs.Relations.{Relates, Rounds}

-- the set that the label is in, or the empty one
abbrev pub set_with : List (List ℕ) → ℕ → List ℕ
set_with sets x = slice_index_or sets x []

-- to be in one set goes both ways, and on
pub record AreApart (sets : List (List ℕ)) : Type 0 where
  pub back : (x y : ℕ) → Relates sets x y → Relates sets y x
  pub on : (x y z : ℕ) → Relates sets x y → Relates sets y z → Relates sets x z

-- all these labels are in one set
abbrev pub AreOfOne : List (List ℕ) → List ℕ → Type 0
AreOfOne sets labels = (x y : ℕ) → Contains labels x → Contains labels y → Relates sets x y

-- each label leads to those with which it stands in a configuration of labels of its set
abbrev pub AreJoins : Constraint → List (List ℕ) → List (List ℕ) → Type 0
AreJoins constraint sets table = (x y : ℕ) → Relates table x y ↔ (Relates sets x y × Joins constraint (set_with sets x) x y)

-- the labels that stand in a configuration of labels of their set
abbrev pub AreStanding : Constraint → List (List ℕ) → List ℕ → Type 0
AreStanding constraint sets labels = (x : ℕ) → IsIn x labels ↔ ((y : ℕ) × Relates sets x y × Joins constraint (set_with sets x) x y)

-- the sets without the labels that aren't kept
abbrev pub AreKept : List (List ℕ) → List ℕ → List (List ℕ) → Type 0
AreKept sets kept left = (x y : ℕ) → Relates left x y ↔ (Relates sets x y × IsIn x kept × IsIn y kept)

-- the greatest trimmed parts of the sets
pub record AreTrimmed (problem : Problem) (sets left : List (List ℕ)) : Type 0 where
  pub apart : AreApart left
  pub part : (x y : ℕ) → Relates left x y → Relates sets x y
  pub trimmed : (x : ℕ) → Relates left x x → IsTrimmed problem (set_with left x)
  pub greatest : (set : List ℕ) → IsTrimmed problem set → AreOfOne sets set → AreOfOne left set

-- where walks of labels of one set lead: through an even number of nodes of which the first is active, or passive, and through an odd one; and
-- which labels turn, by steps of two nodes of which the first is active, or passive
pub record AreWalks (problem : Problem) (sets two back forth behind from_active from_passive : List (List ℕ)) : Type 0 where
  pub forth_is : (x y : ℕ) → Relates sets x x → Relates forth x y ↔ ((l : ℕ) × Leads problem (set_with sets x) true (2 * l) x y)
  pub behind_is : (x y : ℕ) → Relates sets x x → Relates behind x y ↔ ((l : ℕ) × Leads problem (set_with sets x) false (2 * l) x y)
  pub from_active_is : (x y : ℕ) → Relates sets x x → Relates from_active x y ↔ ((l : ℕ) × Leads problem (set_with sets x) true (suc (2 * l)) x y)
  pub from_passive_is : (x y : ℕ) → Relates sets x x → Relates from_passive x y ↔ ((l : ℕ) × Leads problem (set_with sets x) false (suc (2 * l)) x y)
  pub turns_are : (x : ℕ) → AreJoined problem (set_with sets x) x x → Rounds two x ↔ ((l : ℕ) × Turns problem (set_with sets x) x l)
  pub converse : (x y : ℕ) → Relates back x y ↔ Relates two y x

-- for each label those of its set that walks join with it
abbrev pub AreParts : Problem → List (List ℕ) → List (List ℕ) → Type 0
AreParts problem sets parts = (x y : ℕ) → Relates parts x y ↔ AreJoined problem (set_with sets x) x y

-- the labels that walks join with themselves and that turn within their set
abbrev pub AreTurning : Problem → List (List ℕ) → List ℕ → Type 0
AreTurning problem sets labels = (x : ℕ) → IsIn x labels ↔ (AreJoined problem (set_with sets x) x x × ((l : ℕ) × Turns problem (set_with sets x) x l))

-- sets that are trimmed and flexible within the sets, and each other such set is a part of one of them
pub record AreNext (problem : Problem) (sets next : List (List ℕ)) : Type 0 where
  pub apart : AreApart next
  pub part : (x y : ℕ) → Relates next x y → Relates sets x y
  pub trimmed : (x : ℕ) → Relates next x x → IsTrimmed problem (set_with next x)
  pub flexible : (x : ℕ) → Relates next x x → (l : ℕ) × IsFlexibleWithin problem (set_with next x) (set_with sets x) l
  pub greatest : (set : List ℕ) (x l : ℕ) → IsTrimmed problem set → IsFlexibleWithin problem set (set_with sets x) l → AreOfOne next set

-- the set with the least of all labels of the sets, or none where none has a label
abbrev pub IsFirst : List (List ℕ) → Option (List ℕ) → Type 0
IsFirst sets answer = MatchOption answer ((x : ℕ) → Relates sets x x → ⊥) (λ set. (x : ℕ) × Relates sets x x × (set ≡ set_with sets x) × ((y : ℕ) → Relates sets y y → x ≤ y))
