-- The test whether a problem is greedy decides it.
use Rattle.std.proofs.Common.{◌≡◌, ℕ, ◌<◌, Bool, true, false, eqb, ltb, ◌&&◌, ◌||◌, List, [], ◌∷◌, map, length, refl, sym, ◌∙◌, ap, subst, arith, inl, inr}
use Rattle.std.specs.Prelude.{◌↔◌, Contains, IsTrue, not}
use Rattle.std.specs.List.{AllByRecursion, AllZip, list_all, list_any}
use Rattle.std.proofs.lemmas.List.{length-map}
use Rattle.re_labels.proofs.LawsOfRows.{multisets_law}
use Rattle.re_labels.proofs.Rearranging.{Rearranged-map, Rearranged-sym}
use Rattle.re_labels.proofs.Sorting.{IsConfig-sorted, Rearranged-sorted}
use Rattle.re_labels.specs.Configs.{IsConfig, sorted}
use Rattle.re_labels.specs.Orders.{multisets}
use Rattle.re_labels.specs.Rows.{IsChoice, placed, set_at}
use Rattle.re_greedy.proofs.ActiveTurns.{has_below}
use Rattle.re_greedy.specs.Greedy.{IsGreedy, is_greedy, joining, wanting}
use Rattle.re_labels.proofs.Before.{same_list-same}
use Rattle.re_labels.proofs.Membership.{AllByRecursion-contains, AllByRecursion-from_contains, Contains-In, Contains-count_from, Contains-filter, Contains-filter_cases, Contains-here, Contains-later, Contains-map_cases, In-Contains, all-In, all-In_from, any_found, map-alike}
use Rattle.re_labels.proofs.LabelPlaces.{map-get-place_of, place_of-below}
use Rattle.re_labels.proofs.Tests.{and-true, below-true, eqb-same, eqb-true, or-left, or-right, or-true, true-and, true-below}
use Rattle.re_labels.specs.Lists.{count_from, place_of, same_list}
use Rattle.re_problem.proofs.StepLaws.{map-map}
use Rattle.re_problem.specs.Problems.{IsProblem, Problem}
use Rattle.re_problem.proofs.HeldLabels.{is_held}
use Rattle.re_labels.proofs.Goodness.{IsAllowed-Rearranged, IsAllowed-is_allowed, is_allowed-IsAllowed}
use Rattle.re_labels.specs.Constraints.{Has}
use Rattle.re_labels.specs.GoodRows.{IsAllowed, is_allowed}
use Rattle.std.proofs.lemmas.List.Elements.{Contains-get_or}
use Rattle.std.proofs.lemmas.List.{get_or-map}

-- ---- lists of lists
pub listed : (lists : List (List ℕ)) (v : List ℕ) → list_any (same_list v) lists ≡ true → Contains lists v
listed lists v h = let (w, at, same) = any_found (same_list v) lists h in subst (Contains lists) (sym (same_list-same v w same)) at

module _ (problem : Problem) (partial : List (List ℕ)) (is : IsProblem problem) where
  abbrev n : ℕ
  n = problem.labels

  abbrev wanted : List (List ℕ)
  wanted = wanting problem.passive.degree partial

  abbrev rows : List (List ℕ)
  rows = map (joining n partial) wanted

  abbrev whole : List ℕ → Bool
  whole labels = not (eqb (length labels) problem.passive.degree) || list_any (same_list labels) problem.passive.configs

  abbrev answered : List ℕ → Bool
  answered places = is_allowed problem.active (placed rows places)

  joins : (seen : List ℕ) (label : ℕ) → Contains (joining n partial seen) label → Contains partial (sorted (label ∷ seen))
  joins seen label held = listed partial (sorted (label ∷ seen)) (Contains-filter_cases (λ label. list_any (same_list (sorted (label ∷ seen))) partial) (count_from 0 n) label held).1

  may_join : (seen : List ℕ) (label : ℕ) → label < n → Contains partial (sorted (label ∷ seen)) → Contains (joining n partial seen) label
  may_join seen label low held =
      Contains-filter (λ label. list_any (same_list (sorted (label ∷ seen))) partial) (count_from 0 n) label (Contains-count_from 0 n label (omega arith) (omega (arith, low)))
      (is_held partial (sorted (label ∷ seen)) held)

  joined : (labels : List ℕ) (around : List (List ℕ)) → IsChoice labels (map (joining n partial) around) → AllZip (λ label seen. Contains partial (sorted (label ∷ seen))) labels around
  joined [] [] chosen = tt
  joined [] (seen ∷ around) chosen = absurd chosen
  joined (label ∷ labels) [] chosen = absurd chosen
  joined (label ∷ labels) (seen ∷ around) chosen = (joins seen label chosen.0, joined labels around chosen.1)

  chosen_of : (labels : List ℕ) (around : List (List ℕ)) → ((label : ℕ) → Contains labels label → label < n)
      → AllZip (λ label seen. Contains partial (sorted (label ∷ seen))) labels around → IsChoice labels (map (joining n partial) around)
  chosen_of [] [] low zip = tt
  chosen_of [] (seen ∷ around) low zip = absurd zip
  chosen_of (label ∷ labels) [] low zip = absurd zip
  chosen_of (label ∷ labels) (seen ∷ around) low zip =
      (may_join seen label (low label (Contains-here label labels)) zip.0, chosen_of labels around (λ x at. low x (Contains-later x label labels at)) zip.1)

  -- rows by their places are what may join the multisets there
  rows_at : (places : List ℕ) → ((i : ℕ) → Contains places i → i < length wanted) → placed rows places ≡ map (joining n partial) (placed wanted places)
  rows_at places low =
      map-alike (set_at rows) (λ i. joining n partial (set_at wanted i)) places (λ i at. get_or-map (joining n partial) wanted i [] [] (low i at))
      ∙ sym (map-map (joining n partial) (set_at wanted) places)

  opens : (seen : List ℕ) → Contains wanted seen → Contains partial seen × (length seen < problem.passive.degree)
  opens seen at =
      let (there, passes) = Contains-filter_cases (λ seen. ltb (length seen) problem.passive.degree) partial seen at in
      (there, below-true (length seen) problem.passive.degree passes)

  -- ---- from the test
  from_test : is_greedy problem partial ≡ true → IsGreedy problem partial
  from_test h =
      let (none, rest) = and-true (list_any (same_list []) partial) (list_all whole partial && list_all answered (multisets problem.active.degree 0 (length wanted))) h in
      let (full, next) = and-true (list_all whole partial) (list_all answered (multisets problem.active.degree 0 (length wanted))) rest in
      record {
        none = listed partial [] none;
        full = λ labels at count. whole_there labels count (all-In whole partial full labels (Contains-In labels partial at));
        next = λ around count each. answer next around count each;
      }
    where
      whole_there : (labels : List ℕ) → length labels ≡ problem.passive.degree → whole labels ≡ true → Contains problem.passive.configs labels
      whole_there labels count h = elim (or-true (not (eqb (length labels) problem.passive.degree)) (list_any (same_list labels) problem.passive.configs) h) [
        | inl e ↦ (let same : eqb (length labels) problem.passive.degree ≡ true = subst (λ k. eqb k problem.passive.degree ≡ true) (sym count) (eqb-same problem.passive.degree) in absurd (cc))
        | inr e ↦ listed problem.passive.configs labels e
      ]

      answer : list_all answered (multisets problem.active.degree 0 (length wanted)) ≡ true → (around : List (List ℕ)) → length around ≡ problem.active.degree
          → AllByRecursion (λ seen. Contains partial seen × (length seen < problem.passive.degree)) around
          → (labels : List ℕ) × AllZip (λ label seen. Contains partial (sorted (label ∷ seen))) labels around × Has problem.active labels
      answer next around count each =
          let member : (seen : List ℕ) → Contains around seen → Contains wanted seen =
          λ seen at. (
          let (there, fewer) = AllByRecursion-contains (λ seen. Contains partial seen × (length seen < problem.passive.degree)) around seen each at in
          Contains-filter (λ seen. ltb (length seen) problem.passive.degree) partial seen there (true-below (length seen) problem.passive.degree fewer)) in
          let places : List ℕ = map (place_of wanted) around in
          let back : placed wanted places ≡ around = map-get-place_of wanted around member in
          let below : AllByRecursion (λ i. i < length wanted) places =
          AllByRecursion-from_contains (λ i. i < length wanted) places (λ i at.
          let (seen, there, e) = Contains-map_cases (place_of wanted) around i at in
          subst (λ i. i < length wanted) e (place_of-below wanted seen (member seen there))) in
          let config : IsConfig problem.active.degree (length wanted) (sorted places) =
          IsConfig-sorted problem.active.degree (length wanted) places (length-map around (place_of wanted) ∙ count) below in
          let at : Contains (multisets problem.active.degree 0 (length wanted)) (sorted places) = ((multisets_law problem.active.degree (length wanted)).1 (sorted places)).1 config in
          let passes : answered (sorted places) ≡ true = all-In answered (multisets problem.active.degree 0 (length wanted)) next (sorted places) (Contains-In (sorted places) (multisets problem.active.degree 0 (length wanted)) at) in
          let allowed : IsAllowed problem.active (placed rows places) =
          IsAllowed-Rearranged problem.active (Rearranged-map (set_at rows) (Rearranged-sym (Rearranged-sorted places))) (is_allowed-IsAllowed problem.active (placed rows (sorted places)) passes) in
          let row : placed rows places ≡ map (joining n partial) around =
          rows_at places (λ i at. AllByRecursion-contains (λ i. i < length wanted) places i below at) ∙ ap (map (joining n partial)) back in
          let (labels, chosen, has) = subst (IsAllowed problem.active) row allowed in
          (labels, joined labels around chosen, has)

  -- ---- to the test
  to_test : IsGreedy problem partial → is_greedy problem partial ≡ true
  to_test greedy =
      true-and (list_any (same_list []) partial) (list_all whole partial && list_all answered (multisets problem.active.degree 0 (length wanted)))
      (is_held partial [] greedy.none)
      (true-and (list_all whole partial) (list_all answered (multisets problem.active.degree 0 (length wanted)))
      (all-In_from whole partial (λ labels i. there labels (eqb (length labels) problem.passive.degree) refl (In-Contains labels partial i)))
      (all-In_from answered (multisets problem.active.degree 0 (length wanted)) (λ places i. answer places (In-Contains places (multisets problem.active.degree 0 (length wanted)) i))))
    where
      there : (labels : List ℕ) (b : Bool) → eqb (length labels) problem.passive.degree ≡ b → Contains partial labels → whole labels ≡ true
      there labels true e at =
          or-right (not (eqb (length labels) problem.passive.degree)) (list_any (same_list labels) problem.passive.configs)
          (is_held problem.passive.configs labels (greedy.full labels at (eqb-true (length labels) problem.passive.degree e)))
      there labels false e at =
          or-left (not (eqb (length labels) problem.passive.degree)) (list_any (same_list labels) problem.passive.configs) (ap not e)

      answer : (places : List ℕ) → Contains (multisets problem.active.degree 0 (length wanted)) places → answered places ≡ true
      answer places at =
          let config : IsConfig problem.active.degree (length wanted) places = ((multisets_law problem.active.degree (length wanted)).1 places).0 at in
          let low : (i : ℕ) → Contains places i → i < length wanted = λ i at. AllByRecursion-contains (λ i. i < length wanted) places i config.below at in
          let each : AllByRecursion (λ seen. Contains partial seen × (length seen < problem.passive.degree)) (placed wanted places) =
          AllByRecursion-from_contains (λ seen. Contains partial seen × (length seen < problem.passive.degree)) (placed wanted places) (λ seen at.
          let (i, here, e) = Contains-map_cases (set_at wanted) places seen at in
          subst (λ seen. Contains partial seen × (length seen < problem.passive.degree)) e (opens (set_at wanted i) (Contains-get_or wanted i [] (low i here)))) in
          let (labels, zip, has) = greedy.next (placed wanted places) (length-map places (set_at wanted) ∙ config.count) each in
          let chosen : IsChoice labels (map (joining n partial) (placed wanted places)) = chosen_of labels (placed wanted places) (has_below problem labels is has) zip in
          IsAllowed-is_allowed problem.active (placed rows places) (labels, subst (IsChoice labels) (sym (rows_at places low)) chosen, has)

pub greedy_test : (problem : Problem) (partial : List (List ℕ)) → IsProblem problem → IsTrue (is_greedy problem partial) ↔ IsGreedy problem partial
greedy_test problem partial is = (from_test problem partial is, to_test problem partial is)
