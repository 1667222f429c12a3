-- A row again from its sets.
use Rattle.std.proofs.Common.{◌≡◌, ℕ, ◌≤◌, List, [], ◌∷◌, length, map, refl, sym, ap, ◌∙◌, Some}
use Rattle.std.specs.Cmp.Lexicographic.{slice_cmp}
use Rattle.std.specs.Ordering.{nat_cmp, ordering_then}
use Rattle.re_labels.proofs.Placing.{row_found}
use Rattle.re_labels.proofs.Rows.{row_numbers}
use Rattle.re_labels.proofs.Sorting.{sorted_again}
use Rattle.re_labels.specs.Rows.{IsRow, row_cmp, row_of}
use Rattle.re_labels.proofs.Membership.{AllByRecursion-weaker}
use Rattle.re_labels.proofs.Rising.{rising-map}
use Rattle.re_labels.specs.Sets.{number}
use Rattle.re_labels.proofs.Goodness.{filled-is_full}
use Rattle.re_labels.specs.declared.TheConstants.{MAX_LABELS}

pub row_again : (row sets : List (List ℕ)) → 2 ≤ length row → length row ≤ 6 → IsRow (length row) MAX_LABELS row → sets ≡ row → row_of MAX_LABELS sets ≡ Some row
row_again row sets two six is e =
    let rises = rising-map (λ s t. number s ≤ number t) (λ x y. x ≤ y) number row (λ s t i j le. le) is.ascends in
    let full = filled-is_full row (AllByRecursion-weaker _ _ (λ s h. h.1) row is.sets) in
    ap (row_of MAX_LABELS) e ∙ sym (row_found row (map number row) two six full (sym (sorted_again (map number row) rises))) ∙ ap Some (row_numbers MAX_LABELS row is.sets)
