-- What putting a certificate in order does, and what it keeps.
use Rattle.std.specs.Prelude.{◌≡◌, ℕ, ◌≤◌, Bool, List, drop, length, if◌then◌else◌, None}
use Rattle.std.specs.List.{AllZip, zip}
use Rattle.std.specs.List.Sorted.{IsPermutation, IsSortedBy, IsStableBy}
use Rattle.re_boxes.specs.Ordering.{is_row_before}
use Rattle.re_problem.specs.Steps.{LowerMap}
use Rattle.re_problem.specs.Steps.LowerMap.{by_row, by_set}
use Rattle.re_cert.specs.Bounds.{Bound, BoundStep}
use Rattle.re_check.specs.Verdicts.{bound_fault}
use Rattle.re_chains.specs.Chains.{IsSoundChain}
use Rattle.re_shaping.specs.Tidied.{first_row_before, label_before, pair_before, set_before, tidied}

-- the new list has the elements of the old one, each as often; none is before the one in front of it, and those of which none is before the other stand as they stood
pub record IsInOrder {X : Type 0} (before : X → X → Bool) (old new : List X) : Type 0 where
  pub same : IsPermutation old new
  pub ascends : IsSortedBy before new
  pub stable : IsStableBy before old new

-- the images are the same ones; where each row has an image, the images go with the rows, and those behind them stay
pub record AreImagesInOrder (rows sorted : List (List (List ℕ))) (old new : List (List ℕ)) : Type 0 where
  pub same : IsPermutation old new
  pub pairs : length rows ≤ length old → IsInOrder first_row_before (zip rows old) (zip sorted new)
  pub rest : length rows ≤ length old → drop (length rows) new ≡ drop (length rows) old

-- the map keeps its form: entries are in the order of their sets, and in an upper step of their labels; images go with the rows
abbrev pub IsMapInOrder : Bool → List (List (List ℕ)) → List (List (List ℕ)) → LowerMap → LowerMap → Type 0
IsMapInOrder lower rows sorted (by_set old) (by_set new) = IsInOrder (if lower then set_before else label_before) old new
IsMapInOrder lower rows sorted (by_row old) (by_row new) = AreImagesInOrder rows sorted old new
IsMapInOrder lower rows sorted (by_set old) (by_row new) = ⊥
IsMapInOrder lower rows sorted (by_row old) (by_set new) = ⊥

-- the step leads to the same problem, with its rows and its map in order
pub record IsStepInOrder (old new : BoundStep) : Type 0 where
  pub lower : new.lower ≡ old.lower
  pub next : new.next ≡ old.next
  pub rows : IsInOrder is_row_before old.rows new.rows
  pub map : IsMapInOrder old.lower old.rows new.rows old.map new.map

-- the same kind, way back and first problem, with each step and the pairs in order
pub record IsBoundInOrder (old new : Bound) : Type 0 where
  pub kind : new.kind ≡ old.kind
  pub back : new.back ≡ old.back
  pub first : new.first ≡ old.first
  pub steps : AllZip IsStepInOrder old.steps new.steps
  pub renaming : IsInOrder pair_before old.renaming new.renaming

-- ---- the laws
-- each list of a bound in order has its elements, in their order
abbrev pub OrderLaw : Type 0
OrderLaw = (bound : Bound) → IsBoundInOrder bound (tidied bound)

-- a valid bound stays valid
abbrev pub ValidOrderLaw : Type 0
ValidOrderLaw = (bound : Bound) → bound_fault bound ≡ None → bound_fault (tidied bound) ≡ None

-- a sound chain stays sound
abbrev pub SoundOrderLaw : Type 0
SoundOrderLaw = (bound : Bound) → IsSoundChain bound → IsSoundChain (tidied bound)
