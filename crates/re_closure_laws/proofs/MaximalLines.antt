-- The maximal rows of what lies below lines none of which dominates another are exactly those of the lines.
use Rattle.std.proofs.Common.{◌≡◌, ℕ, ◌≤◌, List, [], ◌∷◌, length, map, sym, ap, ◌∙◌, subst}
use Rattle.std.specs.Prelude.{Contains}
use Rattle.std.specs.List.{AllByRecursion}
use Rattle.re_labels.proofs.Rearranging.{Rearranged-map}
use Rattle.re_labels.proofs.Rows.{AreSets, row_numbers}
use Rattle.re_labels.proofs.Sorting.{sorted-Rearranged, sorted_again}
use Rattle.re_labels.specs.Rearranging.{Rearranged, chained}
use Rattle.re_labels.specs.Rows.{Dominates, IsRow, IsUnder, in_order}
use Rattle.re_labels.proofs.Membership.{Contains-here, Contains-later}
use Rattle.re_labels.proofs.LabelPlaces.{get-place_of}
use Rattle.re_labels.proofs.Rising.{rising-map}
use Rattle.re_labels.specs.Lists.{place_of}
use Rattle.re_labels.specs.Sets.{IsLabelSet, IsWithin, number, set_of}
use Rattle.re_labels.proofs.MaxRows.{dominated}
use Rattle.re_labels.specs.Constraints.{Constraint}
use Rattle.re_labels.specs.GoodRows.{IsDominated, max_rows}
use Rattle.re_closure_laws.proofs.Below.{line_good, line_sets, of_maximal, own_label}
use Rattle.re_closure_laws.proofs.Unders.{IsIn-labels_within_cases, map_moved}
use Rattle.re_closure_laws.specs.Laws.{MaximalLinesLaw}
use Rattle.re_closure_laws.specs.Lines.{AreApart, Family, IsFamily, below, labels_within, row_within}

-- a row is its sets in order
pub in_order-row : (d n : ℕ) (s r : List (List ℕ)) → IsRow d n r → Rearranged s r → r ≡ in_order n s
in_order-row d n s r row p =
    sym (row_numbers n r row.sets)
    ∙ ap (map (set_of n)) (sym (sorted_again (map number r) (rising-map (λ s t. number s ≤ number t) (λ x y. x ≤ y) number r (λ x y i j le. le) row.ascends)))
    ∙ ap (map (set_of n)) (sym (sorted-Rearranged (Rearranged-map number p)))

module _ (family : Family) (is : IsFamily family) (apart : AreApart family.lines) where
  -- where the rows of two lines lie under one another, so do the lines
  under_back : (line other : List (List ℕ)) → ((set : List ℕ) → Contains line set → Contains family.sets set)
      → IsUnder (map (labels_within family.sets) line) (map (labels_within family.sets) other) → IsUnder line other
  under_back [] [] known h = tt
  under_back [] (t ∷ other) known h = absurd h
  under_back (s ∷ line) [] known h = absurd h
  under_back (s ∷ line) (t ∷ other) known h =
      let held = known s (Contains-here s line) in
      let c = IsIn-labels_within_cases family.sets t (place_of family.sets s) (h.0 (place_of family.sets s) (own_label family is s held)) in
      (subst (λ w. IsWithin w t) (get-place_of family.sets s held) c.1, under_back line other (λ set i. known set (Contains-later set s line i)) h.1)

  to_row : (line : List (List ℕ)) → Contains family.lines line → (r : List (List ℕ)) × Contains (max_rows (below family) (length family.sets)) r × Rearranged (map (labels_within family.sets) line) r
  to_row line held = go (dominated (below family) (length family.sets) (map (labels_within family.sets) line) (line_good family is line held) (all_sets (map (labels_within family.sets) line) (line_sets family is line held)))
    where
      all_sets : (r : List (List ℕ)) → AreSets (length family.sets) r → AllByRecursion (IsLabelSet (length family.sets)) r
      all_sets [] h = tt
      all_sets (s ∷ r) h = (h.0.0, all_sets r h.1)

      go : IsDominated (max_rows (below family) (length family.sets)) (map (labels_within family.sets) line)
          → (r : List (List ℕ)) × Contains (max_rows (below family) (length family.sets)) r × Rearranged (map (labels_within family.sets) line) r
      go (top, there, (moved, p, u)) = with_line (of_maximal family is top there)
        where
          with_line : (other : List (List ℕ)) × Contains family.lines other × Rearranged (map (labels_within family.sets) other) top
              → (r : List (List ℕ)) × Contains (max_rows (below family) (length family.sets)) r × Rearranged (map (labels_within family.sets) line) r
          with_line (other, at, q) =
              let m = map_moved (labels_within family.sets) other moved (chained q p) in
              let dom : Dominates other line = (m.0, m.1, under_back line m.0 (λ set i. is.known line set held i) (subst (IsUnder (map (labels_within family.sets) line)) m.2 u)) in
              let same : other ≡ line = apart other line at held dom in
              (top, there, subst (λ w. Rearranged (map (labels_within family.sets) w) top) same q)

pub maximal_lines_law : MaximalLinesLaw
maximal_lines_law family row is apart = (of, to)
  where
    K : Constraint
    K = below family

    is_row : (r : List (List ℕ)) → Contains (max_rows (below family) (length family.sets)) r → IsRow family.degree (length family.sets) r
    is_row r held = (Rattle.re_labels.proofs.MaxSets.maximal (below family) (length family.sets) r held).is_row

    of : Contains (max_rows (below family) (length family.sets)) row → (line : List (List ℕ)) × Contains family.lines line × (row ≡ row_within family.sets line)
    of held =
        let (line, at, p) = of_maximal family is row held in
        (line, at, in_order-row family.degree (length family.sets) (map (labels_within family.sets) line) row (is_row row held) p)

    to : (line : List (List ℕ)) × Contains family.lines line × (row ≡ row_within family.sets line) → Contains (max_rows (below family) (length family.sets)) row
    to (line, at, e) =
        let (r, held, p) = to_row family is apart line at in
        subst (Contains (max_rows (below family) (length family.sets))) (in_order-row family.degree (length family.sets) (map (labels_within family.sets) line) r (is_row r held) p ∙ sym e) held
