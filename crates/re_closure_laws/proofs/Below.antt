-- The maximal rows of what lies below the lines of a family.
use Rattle.std.proofs.Common.{◌≡◌, ℕ, ◌<◌, List, [], ◌∷◌, length, map, refl, sym, ◌∙◌, subst, arith}
use Rattle.std.specs.Prelude.{Contains}
use Rattle.std.specs.List.{AllByRecursion}
use Rattle.re_labels.proofs.ChoicesOfRows.{IsUnder-refl, IsUnder-trans}
use Rattle.re_labels.proofs.LawsOfRows.{multisets_law}
use Rattle.re_labels.proofs.Placing.{placed-Rearranged}
use Rattle.re_labels.proofs.Rearranging.{Rearranged-map, Rearranged-refl, Rearranged-sym}
use Rattle.re_labels.proofs.Rows.{AreSets, as_row}
use Rattle.re_labels.proofs.Sorting.{AllByRecursion-Rearranged, IsConfig-sorted, Rearranged-sorted}
use Rattle.re_labels.specs.Configs.{IsConfig, sorted}
use Rattle.re_labels.specs.Orders.{multisets, placements}
use Rattle.re_labels.specs.Rearranging.{Rearranged, chained}
use Rattle.re_labels.specs.Rows.{IsChoice, IsUnder, combined, placed, set_at, singles}
use Rattle.re_labels.proofs.Membership.{Contains-In, Contains-filter, Contains-filter_cases, Contains-here, Contains-later, Contains-none, In-Contains, length-map'}
use Rattle.re_labels.proofs.LabelPlaces.{get-place_of, place_of-below}
use Rattle.re_labels.specs.Lists.{place_of}
use Rattle.re_labels.specs.Sets.{IsIn, IsWithin}
use Rattle.re_labels.proofs.Closure.{IsFull, IsReached, Shape, closure}
use Rattle.re_labels.proofs.Goodness.{IsDominated-is_dominated, IsGood-Rearranged, is_dominated-IsDominated}
use Rattle.re_labels.proofs.MaxRows.{max_rows-IsMaximal}
use Rattle.re_labels.specs.Constraints.{Constraint, Has}
use Rattle.re_labels.specs.GoodRows.{IsDominated, IsGood, IsMaximal, is_dominated, max_rows}
use Rattle.re_boxes.proofs.Spread.{IsIn-filled}
use Rattle.re_labels.proofs.ClosureLaw.{IsFull-sets}
use Rattle.re_closure_laws.proofs.Unders.{IsIn-labels_within, IsLabelSet-labels_within, choice_under, dominated_moved, map_moved, shape-map, singles_under, under-labels_within, under_combined}
use Rattle.re_closure_laws.specs.Lines.{Family, IsFamily, below, labels_within}

pub placed-Rearranged_labels : (sets : List (List ℕ)) {c d : List ℕ} → Rearranged c d → Rearranged (placed sets c) (placed sets d)
placed-Rearranged_labels sets p = Rearranged-map (set_at sets) p

-- a maximal row that lies under good sets, in whatever order, has exactly these
pub maximal_is : (K : Constraint) (n : ℕ) (r s t : List (List ℕ)) → IsMaximal K n r → AreSets n s → IsGood K s → Rearranged s t → IsUnder r t → Rearranged s r
maximal_is K n r s t m sets good p u =
    let q = as_row n K.degree s good.count sets in
    let e : q.0 ≡ r = m.alone q.0 q.1 (IsGood-Rearranged K q.2 good) (t, chained (Rearranged-sym q.2) p, u) in
    subst (Rearranged s) e q.2

module _ (family : Family) (is : IsFamily family) where
  abbrev n : ℕ
  n = length family.sets

  abbrev rows : List (List ℕ) → List (List ℕ)
  rows line = map (labels_within family.sets) line

  pub Has-below : (labels : List ℕ) → length labels ≡ family.degree → AllByRecursion (λ x. x < length family.sets) labels → IsDominated family.lines (placed family.sets labels) → Has (below family) labels
  Has-below labels count low dom =
      let p = Rearranged-sorted labels in
      Contains-filter (λ labels. is_dominated family.lines (placed family.sets labels)) (multisets family.degree 0 n) (sorted labels)
      (((multisets_law family.degree n).1 (sorted labels)).1 (IsConfig-sorted family.degree n labels count low))
      (IsDominated-is_dominated family.lines (placed family.sets (sorted labels)) (dominated_moved family.lines (placed family.sets labels) (placed family.sets (sorted labels)) (placed-Rearranged_labels family.sets p) dom))

  pub Has-below_cases : (labels : List ℕ) → Has (below family) labels → IsConfig family.degree (length family.sets) (sorted labels) × IsDominated family.lines (placed family.sets (sorted labels))
  Has-below_cases labels has =
      let two = Contains-filter_cases (λ labels. is_dominated family.lines (placed family.sets labels)) (multisets family.degree 0 n) (sorted labels) has in
      (((multisets_law family.degree n).1 (sorted labels)).0 two.0, is_dominated-IsDominated family.lines (placed family.sets (sorted labels)) two.1)

  -- a line's labels within its sets
  pub good_for : (line : List (List ℕ)) → Contains family.lines line → (c : List ℕ) → IsChoice c (map (labels_within family.sets) line) → Has (below family) c
  good_for line held c chosen =
      let u = choice_under family.sets line c chosen in
      Has-below c (u.2 ∙ is.count line held) u.1 (line, held, (line, Rearranged-refl line, u.0))

  pub own_label : (set : List ℕ) → Contains family.sets set → IsIn (place_of family.sets set) (labels_within family.sets set)
  own_label set held =
      IsIn-labels_within family.sets set (place_of family.sets set) (place_of-below family.sets set held)
      (subst (λ s. IsWithin s set) (sym (get-place_of family.sets set held)) (λ z i. i))

  sets_of : (line : List (List ℕ)) → ((set : List ℕ) → Contains line set → Contains family.sets set) → AreSets (length family.sets) (map (labels_within family.sets) line)
  sets_of [] h = tt
  sets_of (s ∷ line) h =
      ((IsLabelSet-labels_within family.sets s, IsIn-filled (place_of family.sets s) (labels_within family.sets s) (own_label s (h s (Contains-here s line)))), sets_of line (λ set i. h set (Contains-later set s line i)))

  pub line_sets : (line : List (List ℕ)) → Contains family.lines line → AreSets (length family.sets) (map (labels_within family.sets) line)
  line_sets line held = sets_of line (λ set i. is.known line set held i)

  pub line_good : (line : List (List ℕ)) → Contains family.lines line → IsGood (below family) (map (labels_within family.sets) line)
  line_good line held = record {
    count = length-map' (labels_within family.sets) line ∙ is.count line held;
    filled = filled_all (map (labels_within family.sets) line) (line_sets line held);
    choice = good_for line held;
  }
    where
      filled_all : (r : List (List ℕ)) → AreSets n r → AllByRecursion (λ s. 0 < length s) r
      filled_all [] h = tt
      filled_all (s ∷ r) h = (h.0.1, filled_all r h.1)

  abbrev IsOfLine : List (List ℕ) → Type 0
  IsOfLine row = (line : List (List ℕ)) × Contains family.lines line × (row ≡ map (labels_within family.sets) line)

  reached : (r s t : List (List ℕ)) → IsUnder r (rows s) → IsDominated family.lines s → IsReached (Has (below family)) IsOfLine r
  reached r s t u (top, held, (moved, p, v)) =
      (rows top, (top, held, refl), rows moved, Rearranged-map (labels_within family.sets) p, IsUnder-trans r (rows s) (rows moved) u (under-labels_within family.sets s moved v))

  -- each good row is dominated by that of a line
  covered : (r : List (List ℕ)) → IsGood (below family) r → IsFull r → IsReached (Has (below family)) IsOfLine r
  covered r good full = closure (Has (below family)) IsOfLine base step r good.choice full
    where
      base : (c : List ℕ) → Has (below family) c → IsReached (Has (below family)) IsOfLine (singles c)
      base c has =
          let two = Has-below_cases c has in
          let dom = dominated_moved family.lines (placed family.sets (sorted c)) (placed family.sets c) (placed-Rearranged_labels family.sets (Rearranged-sym (Rearranged-sorted c))) two.1 in
          let low = AllByRecursion-Rearranged (λ x. x < n) (Rearranged-sym (Rearranged-sorted c)) two.0.below in
          reached (singles c) (placed family.sets c) [] (singles_under family.sets c (placed family.sets c) low (IsUnder-refl (placed family.sets c))) dom

      of_lines : (line other : List (List ℕ)) (t : List (List ℕ)) (i : ℕ) → Contains family.lines line → Contains family.lines other → Rearranged (rows other) t → Shape (rows line) t → i < length (rows line)
          → IsReached (Has (below family)) IsOfLine (combined i (rows line) t)
      of_lines line other t i held there p shape low =
          let m = map_moved (labels_within family.sets) other t p in
          let o = placed-Rearranged other m.0 m.1 in
          let listed : Contains (placements family.degree) o.0 = subst (λ k. Contains (placements k) o.0) (is.count other there) (In-Contains o.0 (placements (length other)) o.1) in
          let below' : i < family.degree = (let a = length-map' (labels_within family.sets) line in let b = is.count line held in omega arith) in
          let dom : IsDominated family.lines (combined i line m.0) = subst (λ w. IsDominated family.lines (combined i line w)) (sym o.2) (is.combinations line other o.0 i held there listed below') in
          let alike : Shape (rows line) (rows m.0) = subst (Shape (rows line)) m.2 shape in
          subst (λ w. IsReached (Has (below family)) IsOfLine (combined i (rows line) w)) (sym m.2)
          (reached (combined i (rows line) (rows m.0)) (combined i line m.0) [] (under_combined family.sets i line m.0 (shape-map (labels_within family.sets) (labels_within family.sets) line m.0 alike)) dom)

      step : (r u t : List (List ℕ)) (i : ℕ) → IsOfLine r → IsOfLine u → Rearranged u t → Shape r t → i < length r → IsFull (combined i r t) → IsReached (Has (below family)) IsOfLine (combined i r t)
      step r u t i (line, held, e) (other, there, f) p shape low full =
          subst (λ w. IsReached (Has (below family)) IsOfLine (combined i w t)) (sym e)
          (of_lines line other t i held there (subst (λ w. Rearranged w t) f p) (subst (λ w. Shape w t) e shape) (subst (λ w. i < length w) e low))

  -- each maximal row is that of a line
  pub of_maximal : (r : List (List ℕ)) → Contains (max_rows (below family) (length family.sets)) r → (line : List (List ℕ)) × Contains family.lines line × Rearranged (map (labels_within family.sets) line) r
  of_maximal r held =
      let m = max_rows-IsMaximal (below family) n r (Contains-In r (max_rows (below family) n) held) in
      go m (covered r m.good (IsFull-sets n r m.is_row.sets))
    where
      go : IsMaximal (below family) n r → IsReached (Has (below family)) IsOfLine r → (line : List (List ℕ)) × Contains family.lines line × Rearranged (map (labels_within family.sets) line) r
      go m (q, (line, there, e), t, p, u) =
          (line, there, maximal_is (below family) n r (map (labels_within family.sets) line) t m (line_sets line there) (line_good line there) (subst (λ w. Rearranged w t) e p) u)
