-- What is allowed where each label may become those around it: what lies below the lines.
use Rattle.std.proofs.Common.{◌≡◌, ℕ, ◌<◌, List, [], ◌∷◌, length, map, sym, ap, ◌∙◌, subst, arith}
use Rattle.std.specs.Prelude.{Contains, filter}
use Rattle.std.specs.List.{AllByRecursion}
use Rattle.re_labels.proofs.LawsOfRows.{multisets_law}
use Rattle.re_labels.proofs.OrdersAt.{get_or-map}
use Rattle.re_labels.proofs.Rearranging.{Contains-Rearranged, Rearranged-map, Rearranged-sym}
use Rattle.re_labels.specs.Orders.{multisets}
use Rattle.re_labels.specs.Rows.{IsChoice, IsUnder, placed, set_at}
use Rattle.re_labels.proofs.Membership.{Contains-count_from, Contains-filter, Contains-filter_cases, Contains-here, Contains-later, count_from_range, filter-alike, length-map'}
use Rattle.re_labels.proofs.LabelPlaces.{get-place_of, place_of-below}
use Rattle.re_labels.proofs.Sets.{IsWithin-within, within-IsWithin}
use Rattle.re_labels.proofs.Tests.{same_tests}
use Rattle.re_labels.specs.Lists.{count_from, place_of}
use Rattle.re_labels.specs.Sets.{IsIn, IsWithin, within}
use Rattle.re_labels.proofs.Goodness.{IsAllowed-is_allowed, IsDominated-is_dominated, is_allowed-IsAllowed, is_dominated-IsDominated}
use Rattle.re_labels.specs.Constraints.{Constraint}
use Rattle.re_labels.specs.GoodRows.{IsAllowed, IsDominated, allowed, is_allowed, is_dominated}
use Rattle.re_closure_laws.proofs.Steps.{Has-topmost, Has-topmost_cases}
use Rattle.re_closure_laws.specs.Lines.{Family, IsFamily, below, topmost}
use Rattle.re_closure.specs.Sides.{labels_around}

-- ---- labels around a set
IsIn-around : (sets : List (List ℕ)) (set : List ℕ) (x : ℕ) → x < length sets → IsWithin set (set_at sets x) → IsIn x (labels_around sets set)
IsIn-around sets set x low h =
    Contains-filter (λ label. within set (set_at sets label)) (count_from 0 (length sets)) x (Contains-count_from 0 (length sets) x (omega arith) (omega arith)) (IsWithin-within set (set_at sets x) h)

IsIn-around_cases : (sets : List (List ℕ)) (set : List ℕ) (x : ℕ) → IsIn x (labels_around sets set) → (x < length sets) × IsWithin set (set_at sets x)
IsIn-around_cases sets set x i =
    let two = Contains-filter_cases (λ label. within set (set_at sets label)) (count_from 0 (length sets)) x i in
    let range = count_from_range 0 (length sets) x two.0 in
    (omega (arith, range.1), within-IsWithin set (set_at sets x) two.1)

around_at : (sets : List (List ℕ)) (k : ℕ) → k < length sets → set_at (map (labels_around sets) sets) k ≡ labels_around sets (set_at sets k)
around_at sets k low = get_or-map (labels_around sets) sets k [] [] low

module _ (family : Family) (is : IsFamily family) where
  abbrev arounds : List (List ℕ)
  arounds = map (labels_around family.sets) family.sets

  -- a choice of labels around those of a multiset has sets that hold theirs
  chosen_over : (labels c : List ℕ) → AllByRecursion (λ x. x < length family.sets) labels → IsChoice c (placed arounds labels) → IsUnder (placed family.sets labels) (placed family.sets c)
  chosen_over [] [] low h = tt
  chosen_over [] (y ∷ c) low h = absurd h
  chosen_over (x ∷ labels) [] low h = absurd h
  chosen_over (x ∷ labels) (y ∷ c) low h =
      ((IsIn-around_cases family.sets (set_at family.sets x) y (subst (IsIn y) (around_at family.sets x low.0) h.0)).1, chosen_over labels c low.1 h.1)

  -- and the labels of sets that hold theirs are such a choice
  over_chosen : (labels : List ℕ) (line : List (List ℕ)) → AllByRecursion (λ x. x < length family.sets) labels → ((set : List ℕ) → Contains line set → Contains family.sets set)
      → IsUnder (placed family.sets labels) line → IsChoice (map (place_of family.sets) line) (placed arounds labels)
  over_chosen [] [] low known h = tt
  over_chosen [] (s ∷ line) low known h = absurd h
  over_chosen (x ∷ labels) [] low known h = absurd h
  over_chosen (x ∷ labels) (s ∷ line) low known h =
      let held = known s (Contains-here s line) in (
        subst (IsIn (place_of family.sets s)) (sym (around_at family.sets x low.0))
            (IsIn-around family.sets (set_at family.sets x) (place_of family.sets s) (place_of-below family.sets s held) (subst (IsWithin (set_at family.sets x)) (sym (get-place_of family.sets s held)) h.0)),
        over_chosen labels line low.1 (λ set k. known set (Contains-later set s line k)) h.1,
      )

  to_dominated : (labels : List ℕ) → AllByRecursion (λ x. x < length family.sets) labels → IsAllowed (topmost family) (placed arounds labels) → IsDominated family.lines (placed family.sets labels)
  to_dominated labels low (c, chosen, has) =
      let (line, held, p) = Has-topmost_cases family is c has in
      (line, held, (placed family.sets c, p, chosen_over labels c low chosen))

  to_allowed : (labels : List ℕ) → AllByRecursion (λ x. x < length family.sets) labels → IsDominated family.lines (placed family.sets labels) → IsAllowed (topmost family) (placed arounds labels)
  to_allowed labels low (line, held, (moved, p, u)) = (
    map (place_of family.sets) moved,
    over_chosen labels moved low (λ set i. is.known line set held (Contains-Rearranged set (Rearranged-sym p) i)) u,
    Has-topmost family is line (map (place_of family.sets) moved) held (Rearranged-map (place_of family.sets) (Rearranged-sym p)),
  )

  one_test : (labels : List ℕ) → AllByRecursion (λ x. x < length family.sets) labels → is_allowed (topmost family) (placed arounds labels) ≡ is_dominated family.lines (placed family.sets labels)
  one_test labels low = same_tests (is_allowed (topmost family) (placed arounds labels)) (is_dominated family.lines (placed family.sets labels))
      (λ h. IsDominated-is_dominated family.lines (placed family.sets labels) (to_dominated labels low (is_allowed-IsAllowed (topmost family) (placed arounds labels) h)))
      (λ h. IsAllowed-is_allowed (topmost family) (placed arounds labels) (to_allowed labels low (is_dominated-IsDominated family.lines (placed family.sets labels) h)))

  pub allowed_below : allowed (topmost family) (map (labels_around family.sets) family.sets) family.degree ≡ (below family).configs
  allowed_below =
      ap (λ m. filter (λ places. is_allowed (topmost family) (placed arounds places)) (multisets family.degree 0 m)) (length-map' (labels_around family.sets) family.sets)
      ∙ filter-alike (λ places. is_allowed (topmost family) (placed arounds places)) (λ labels. is_dominated family.lines (placed family.sets labels)) (multisets family.degree 0 (length family.sets))
      (λ labels held. one_test labels (((multisets_law family.degree (length family.sets)).1 labels).0 held).below)

pub below_is : (family : Family) → IsFamily family → (K : Constraint) (wide : List (List ℕ)) → K ≡ topmost family → wide ≡ map (labels_around family.sets) family.sets → allowed K wide family.degree ≡ (below family).configs
below_is family is K wide e f = (λ i. allowed (e i) (f i) family.degree) ∙ allowed_below family is
