-- The boxes of the rows of a list that grows.
use Rattle.std.proofs.Common.{ℕ, ◌+◌, ◌-◌, ◌<◌, ◌≤◌, get_or, List, [], length, sym, subst}
use Rattle.re_boxes.proofs.Covering.{covered_more}
use Rattle.re_boxes.specs.Boxes.{box_at, only_at}
use Rattle.re_boxes.proofs.BoxesOfRows.{next_label, next_place}
use Rattle.re_boxes.specs.Boxed.{AreBoxesCovered, IsBoxCovered}
use Rattle.re_labels.specs.Constraints.{Constraint}
use Rattle.re_boxes.proofs.Growing.{longer_at, longer_has}
use Rattle.re_boxes.specs.Growing.{IsLonger}

module _ (constraint : Constraint) (ups : ℕ → List ℕ) (n : ℕ) where
  pub box_more : (rows all : List (List (List ℕ))) (row : List (List ℕ)) (i x : ℕ) → IsLonger rows all → IsBoxCovered constraint ups rows row i x → IsBoxCovered constraint ups all row i x
  box_more rows all row i x longer covered next = covered_more constraint ups rows all (longer_has rows all longer) (only_at i x row) (box_at ups i x row) (covered next)

  pub label_more : (rows all : List (List (List ℕ))) (row : List (List ℕ)) (i label : ℕ) → IsLonger rows all → IsBoxCovered constraint ups rows row i label
      → ((x : ℕ) → label + 1 ≤ x → x < n → IsBoxCovered constraint ups all row i x) → (x : ℕ) → label ≤ x → x < n → IsBoxCovered constraint ups all row i x
  label_more rows all row i label longer here rest = next_label constraint ups n all row i label (box_more rows all row i label longer here) rest

  pub place_more : (rows all : List (List (List ℕ))) (row : List (List ℕ)) (place : ℕ) → 0 < place → IsLonger rows all → ((i x : ℕ) → i < place - 1 → x < n → IsBoxCovered constraint ups rows row i x)
      → ((x : ℕ) → 0 ≤ x → x < n → IsBoxCovered constraint ups all row (place - 1) x) → (i x : ℕ) → i < place → x < n → IsBoxCovered constraint ups all row i x
  place_more rows all row place some longer before here = next_place constraint ups n all row place some (λ i x less below. box_more rows all row i x longer (before i x less below)) here

  -- a row of the shorter list stands in the longer one
  pub boxes_more : (rows all : List (List (List ℕ))) → IsLonger rows all → (j : ℕ) → j < length rows → AreBoxesCovered constraint ups n rows (get_or rows j []) → AreBoxesCovered constraint ups n all (get_or all j [])
  boxes_more rows all longer j inside covered =
      subst (AreBoxesCovered constraint ups n all) (sym (longer_at rows all longer j inside)) (λ i x b below. box_more rows all (get_or rows j []) i x longer (covered i x b below))
