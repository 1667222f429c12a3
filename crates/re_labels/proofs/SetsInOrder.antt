-- Rows of sets that stand in any order.
use Rattle.std.proofs.Common.{◌≡◌, ℕ, ◌<◌, ◌≤◌, List, length, map, refl, sym, ap, ◌∙◌, subst, Some}
use Rattle.std.specs.List.{AllByRecursion}
use Rattle.re_labels.proofs.Placing.{row_found}
use Rattle.re_labels.proofs.Rearranging.{Rearranged-map, Rearranged-sym, length-Rearranged}
use Rattle.re_labels.proofs.Rows.{row_numbers}
use Rattle.re_labels.proofs.Sorting.{Rearranged-sorted}
use Rattle.re_labels.specs.Configs.{sorted}
use Rattle.re_labels.specs.Rearranging.{Rearranged}
use Rattle.re_labels.specs.Rows.{in_order, row_of}
use Rattle.re_labels.proofs.Membership.{AllByRecursion-weaker}
use Rattle.re_labels.proofs.Tests.{same_tests}
use Rattle.re_labels.specs.Sets.{IsLabelSet, number, set_of}
use Rattle.re_labels.specs.declared.TheConstants.{MAX_LABELS}
use Rattle.re_labels.proofs.Goodness.{IsAllowed-Rearranged, IsAllowed-is_allowed, IsGood-Rearranged, IsGood-is_good, filled-is_full, is_allowed-IsAllowed, is_good-IsGood}
use Rattle.re_labels.specs.Constraints.{Constraint}
use Rattle.re_labels.specs.GoodRows.{is_allowed, is_good}

-- nonempty sets of labels
abbrev pub AreSets : List (List ℕ) → Type 0
AreSets sets = AllByRecursion (λ set. IsLabelSet MAX_LABELS set × (0 < length set)) sets

pub row_is : (sets : List (List ℕ)) → 2 ≤ length sets → length sets ≤ 6 → AreSets sets → row_of MAX_LABELS sets ≡ Some (in_order MAX_LABELS sets)
row_is sets two six are =
    sym (row_found sets (sorted (map number sets)) two six (filled-is_full sets (AllByRecursion-weaker _ _ (λ s h. h.1) sets are)) refl)

in_order_moved : (sets : List (List ℕ)) → AreSets sets → Rearranged sets (in_order MAX_LABELS sets)
in_order_moved sets are = subst (λ t. Rearranged t (in_order MAX_LABELS sets)) (row_numbers MAX_LABELS sets are) (Rearranged-map (set_of MAX_LABELS) (Rearranged-sorted (map number sets)))

pub in_order-length : (sets row : List (List ℕ)) → AreSets sets → row ≡ in_order MAX_LABELS sets → length row ≡ length sets
in_order-length sets row are e = ap length e ∙ sym (length-Rearranged (in_order_moved sets are))

pub in_order-allowed : (K : Constraint) (sets row : List (List ℕ)) → AreSets sets → row ≡ in_order MAX_LABELS sets → is_allowed K row ≡ is_allowed K sets
in_order-allowed K sets row are e =
    let moved = in_order_moved sets are in
    ap (is_allowed K) e ∙ same_tests (is_allowed K (in_order MAX_LABELS sets)) (is_allowed K sets)
    (λ h. IsAllowed-is_allowed K sets (IsAllowed-Rearranged K (Rearranged-sym moved) (is_allowed-IsAllowed K (in_order MAX_LABELS sets) h)))
    (λ h. IsAllowed-is_allowed K (in_order MAX_LABELS sets) (IsAllowed-Rearranged K moved (is_allowed-IsAllowed K sets h)))

pub in_order-good : (K : Constraint) (sets row : List (List ℕ)) → AreSets sets → row ≡ in_order MAX_LABELS sets → is_good K row ≡ is_good K sets
in_order-good K sets row are e =
    let moved = in_order_moved sets are in
    ap (is_good K) e ∙ same_tests (is_good K (in_order MAX_LABELS sets)) (is_good K sets)
    (λ h. IsGood-is_good K sets (IsGood-Rearranged K (Rearranged-sym moved) (is_good-IsGood K (in_order MAX_LABELS sets) h)))
    (λ h. IsGood-is_good K (in_order MAX_LABELS sets) (IsGood-Rearranged K moved (is_good-IsGood K sets h)))
