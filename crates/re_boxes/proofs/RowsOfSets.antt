-- The row of some sets, and the order of rows.
use Rattle.std.proofs.Common.{◌≡◌, ℕ, ◌<◌, ◌≤◌, ◌^◌, Bool, List, [], ◌∷◌, length, map, Option, Some, refl, sym, ap, ◌∙◌, subst, arith}
use Rattle.std.specs.Prelude.{IsTrue, ◌↔◌}
use Rattle.std.specs.Cmp.Lexicographic.{slice_cmp}
use Rattle.std.specs.List.{AllByRecursion}
use Rattle.std.specs.Ordering.{nat_cmp, ordering_then}
use Rattle.re_boxes.proofs.Spread.{AreFilled, dominated_under}
use Rattle.re_labels.proofs.ChoicesOfRows.{IsUnder-refl}
use Rattle.re_labels.proofs.Placing.{row_found}
use Rattle.re_labels.proofs.Rearranging.{Rearranged-map, Rearranged-sym, length-Rearranged}
use Rattle.re_labels.proofs.Rows.{AreSets-Rearranged, numbers_back, row_numbers}
use Rattle.re_labels.proofs.Sorting.{AllByRecursion-Rearranged, Rearranged-sorted, sorted_rises}
use Rattle.re_labels.specs.Configs.{sorted}
use Rattle.re_labels.specs.Rearranging.{Rearranged}
use Rattle.re_labels.specs.Rows.{IsRow, in_order, row_cmp, row_of}
use Rattle.re_labels.proofs.Membership.{AllByRecursion-weaker}
use Rattle.re_labels.proofs.Numbers.{set_of-number}
use Rattle.re_labels.specs.Lists.{IsRising}
use Rattle.re_labels.specs.Sets.{IsLabelSet, number, set_of}
use Rattle.re_labels.proofs.Goodness.{IsDominated-is_dominated, filled-is_full, is_dominated-IsDominated}
use Rattle.re_labels.specs.GoodRows.{IsDominated, is_dominated}
use Rattle.re_boxes.specs.Sets.{AreSets}
use Rattle.re_labels.specs.declared.TheConstants.{MAX_LABELS}

pub AreSets-more : (n m : ℕ) → n ≤ m → (sets : List (List ℕ)) → AreSets n sets → AreSets m sets
AreSets-more n m h sets k = AllByRecursion-weaker (λ s. IsLabelSet n s × (0 < length s)) (λ s. IsLabelSet m s × (0 < length s))
    (λ s a. ((a.0.0, AllByRecursion-weaker (λ x. x < n) (λ x. x < m) (λ x l. omega (arith, l, h)) s a.0.1), a.1)) sets k

pub in_order_moved : (sets : List (List ℕ)) → AreSets MAX_LABELS sets → Rearranged sets (in_order MAX_LABELS sets)
in_order_moved sets h = subst (λ t. Rearranged t (in_order MAX_LABELS sets)) (row_numbers MAX_LABELS sets h) (Rearranged-map (set_of MAX_LABELS) (Rearranged-sorted (map number sets)))

from_numbers : (r : List (List ℕ)) → IsRising (λ x y. x ≤ y) (map number r) → IsRising (λ s t. number s ≤ number t) r
from_numbers [] h = tt
from_numbers (s ∷ []) h = tt
from_numbers (s ∷ t ∷ r) h = (h.0, from_numbers (t ∷ r) h.1)

numbers_below : (sets : List (List ℕ)) → AreSets MAX_LABELS sets → AllByRecursion (λ x. x < 2 ^ MAX_LABELS) (map number sets)
numbers_below [] h = tt
numbers_below (s ∷ sets) h = ((set_of-number MAX_LABELS s h.0.0).0, numbers_below sets h.1)

pub in_order_row : (n : ℕ) → n ≤ MAX_LABELS → (d : ℕ) (sets : List (List ℕ)) → length sets ≡ d → AreSets n sets → IsRow d n (in_order MAX_LABELS sets)
in_order_row n few d sets e h =
    let whole = AreSets-more n MAX_LABELS few sets h in
    let p = in_order_moved sets whole in
    let v = sorted (map number sets) in
    let below = AllByRecursion-Rearranged (λ x. x < 2 ^ MAX_LABELS) (Rearranged-sorted (map number sets)) (numbers_below sets whole) in
    record {
      count = sym (length-Rearranged p) ∙ e;
      sets = AreSets-Rearranged n p h;
      ascends = from_numbers (in_order MAX_LABELS sets) (subst (IsRising (λ x y. x ≤ y)) (sym (numbers_back MAX_LABELS v below)) (sorted_rises (map number sets)));
    }

pub made : (sets : List (List ℕ)) (o : Option (List (List ℕ))) → 2 ≤ length sets → length sets ≤ 6 → AreSets MAX_LABELS sets → o ≡ row_of MAX_LABELS sets → o ≡ Some (in_order MAX_LABELS sets)
made sets o two six h e = e ∙ sym (row_found sets (sorted (map number sets)) two six (filled-is_full sets (AllByRecursion-weaker _ _ (λ s a. a.1) sets h)) refl)

-- what dominates the row dominates the sets, and the other way round
pub sets_dominated : (rows : List (List (List ℕ))) (sets row : List (List ℕ)) (r : Bool) → AreSets MAX_LABELS sets → row ≡ in_order MAX_LABELS sets → r ≡ is_dominated rows row
    → IsTrue r ↔ IsDominated rows sets
sets_dominated rows sets row r h e told =
    let p : Rearranged sets row = subst (Rearranged sets) (sym e) (in_order_moved sets h) in (
      (λ t. dominated_under rows sets sets row (IsUnder-refl sets) p (is_dominated-IsDominated rows row (sym told ∙ t))),
      (λ d. told ∙ IsDominated-is_dominated rows row (dominated_under rows row row sets (IsUnder-refl row) (Rearranged-sym p) d)),
    )

pub filled : (n : ℕ) (r : List (List ℕ)) → AreSets n r → AreFilled r
filled n [] h = tt
filled n (s ∷ r) h = (h.0.1, filled n r h.1)

pub AreSets-filled : (n : ℕ) (r : List (List ℕ)) → AllByRecursion (IsLabelSet n) r → AreFilled r → AreSets n r
AreSets-filled n [] h k = tt
AreSets-filled n (s ∷ r) h k = ((h.0, k.0), AreSets-filled n r h.1 k.1)
