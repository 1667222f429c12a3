-- From the problem of two families a lower step leads to that of the two the other way round.
use Rattle.std.proofs.Common.{◌≡◌, ℕ, ◌<◌, List, [], ◌∷◌, length, map, refl, sym, ap, ◌∙◌, subst, arith}
use Rattle.std.specs.Prelude.{Contains}
use Rattle.std.specs.List.{AllByRecursion}
use Rattle.re_labels.proofs.AllMultisets.{rising-multisets}
use Rattle.re_labels.proofs.OrdersAt.{get_or-map}
use Rattle.re_labels.proofs.LawsOfRows.{multisets_law}
use Rattle.re_labels.proofs.Rearranging.{Rearranged-map, Rearranged-sym, Contains-Rearranged}
use Rattle.re_labels.proofs.Sorting.{IsConfig-sorted, Rearranged-sorted, sorted-Rearranged}
use Rattle.re_labels.specs.Configs.{IsConfig, sorted}
use Rattle.re_labels.specs.Orders.{multisets}
use Rattle.re_labels.specs.Rearranging.{Rearranged, chained}
use Rattle.re_labels.specs.Rows.{IsChoice, IsUnder, placed, set_at}
use Rattle.re_labels.proofs.Before.{IsBefore-trans}
use Rattle.re_labels.proofs.ListSets.{law as list_set_law}
use Rattle.re_labels.proofs.Membership.{AllByRecursion-from_contains, Contains-filter_cases, Contains-here, Contains-later, Contains-map, Contains-map_cases, length-map', map-alike}
use Rattle.re_labels.proofs.LabelPlaces.{get-place_of, map-get-place_of, place_of-below}
use Rattle.re_labels.proofs.Rising.{rising-filter}
use Rattle.re_labels.specs.Lists.{IsBefore, place_of}
use Rattle.re_labels.specs.ListSets.{list_set}
use Rattle.re_labels.specs.Sets.{IsIn, IsWithin}
use Rattle.re_labels.proofs.MaxSets.{allowed_law, max_sets-from, max_sets-row}
use Rattle.re_labels.specs.Constraints.{Has, IsConstraint}
use Rattle.re_labels.specs.GoodRows.{IsAllowed, allowed, is_dominated, max_rows, max_sets}
use Rattle.re_problem.proofs.StepLaws.{map-map}
use Rattle.re_problem.specs.Problems.{IsProblem}
use Rattle.re_problem.specs.Steps.{IsLowerStepBySet, label_at, label_of}
use Rattle.re_closure_laws.proofs.Below.{Has-below, of_maximal, own_label}
use Rattle.re_closure_laws.proofs.Entries.{labels_at_by, labels_of_by, placed_in, sets_by}
use Rattle.re_closure_laws.proofs.Unders.{IsIn-labels_within, IsIn-labels_within_cases}
use Rattle.re_closure_laws.specs.Laws.{StepLaw}
use Rattle.re_closure_laws.specs.Lines.{AreOpposed, Family, IsFamily, below, entries_within, labels_within, problem_of, topmost}

-- ---- the lines as configurations
module _ (family : Family) (is : IsFamily family) where
  pub Has-topmost : (line : List (List ℕ)) (labels : List ℕ) → Contains family.lines line → Rearranged labels (map (place_of family.sets) line) → Has (topmost family) labels
  Has-topmost line labels held p =
      let f : List (List ℕ) → List ℕ = λ line. sorted (map (place_of family.sets) line) in
      subst (Contains (list_set (map f family.lines))) (sym (sorted-Rearranged p))
      (((list_set_law (map f family.lines)).1 (f line)).1 (Contains-map f family.lines line held))

  -- such a configuration comes from a line, with its sets
  pub Has-topmost_cases : (labels : List ℕ) → Has (topmost family) labels → (line : List (List ℕ)) × Contains family.lines line × Rearranged line (placed family.sets labels)
  Has-topmost_cases labels has =
      let f : List (List ℕ) → List ℕ = λ line. sorted (map (place_of family.sets) line) in
      let (line, held, e) = Contains-map_cases f family.lines (sorted labels) (((list_set_law (map f family.lines)).1 (sorted labels)).0 has) in
      let p : Rearranged (map (place_of family.sets) line) labels =
      chained (subst (Rearranged (map (place_of family.sets) line)) e (Rearranged-sorted (map (place_of family.sets) line))) (Rearranged-sym (Rearranged-sorted labels)) in
      (line, held, subst (λ w. Rearranged w (placed family.sets labels)) (map-get-place_of family.sets line (λ set i. is.known line set held i)) (Rearranged-map (set_at family.sets) p))

  places_low : (line : List (List ℕ)) → ((set : List ℕ) → Contains line set → Contains family.sets set) → AllByRecursion (λ x. x < length family.sets) (map (place_of family.sets) line)
  places_low [] h = tt
  places_low (s ∷ line) h = (place_of-below family.sets s (h s (Contains-here s line)), places_low line (λ set i. h set (Contains-later set s line i)))

  pub IsConstraint-topmost : IsConstraint (length family.sets) (topmost family)
  IsConstraint-topmost = record {
    least = is.least;
    most = is.most;
    configs = AllByRecursion-from_contains (IsConfig family.degree (length family.sets)) (topmost family).configs (λ config held. config_of config held);
    ascends = (list_set_law (map (λ line. sorted (map (place_of family.sets) line)) family.lines)).0;
  }
    where
      config_of : (config : List ℕ) → Contains (topmost family).configs config → IsConfig family.degree (length family.sets) config
      config_of config held =
          let f : List (List ℕ) → List ℕ = λ line. sorted (map (place_of family.sets) line) in
          let (line, at, e) = Contains-map_cases f family.lines config (((list_set_law (map f family.lines)).1 config).0 held) in
          subst (IsConfig family.degree (length family.sets)) e
          (IsConfig-sorted family.degree (length family.sets) (map (place_of family.sets) line) (length-map' (place_of family.sets) line ∙ is.count line at) (places_low line (λ set i. is.known line set at i)))

  pub IsConstraint-below : IsConstraint (length family.sets) (below family)
  IsConstraint-below = record {
    least = is.least;
    most = is.most;
    configs = AllByRecursion-from_contains (IsConfig family.degree (length family.sets)) (below family).configs (λ config held.
        ((multisets_law family.degree (length family.sets)).1 config).0 (Contains-filter_cases (λ labels. is_dominated family.lines (placed family.sets labels)) (multisets family.degree 0 (length family.sets)) config held).0);
    ascends = rising-filter IsBefore IsBefore-trans (λ labels. is_dominated family.lines (placed family.sets labels)) (multisets family.degree 0 (length family.sets)) (rising-multisets family.degree 0 (length family.sets));
  }

  -- the label that a set of labels within the set for a label goes to
  abbrev image : List ℕ → ℕ
  image set = place_of (map (labels_within family.sets) family.sets) set

  pub image_is : (set : List ℕ) → Contains family.sets set → place_of (map (labels_within family.sets) family.sets) (labels_within family.sets set) ≡ place_of family.sets set
  image_is set held =
      let ins = map (labels_within family.sets) family.sets in
      let own = labels_within family.sets set in
      let k = place_of family.sets set in
      let j = place_of ins own in
      let there : Contains ins own = Contains-map (labels_within family.sets) family.sets set held in
      let k_low : k < length family.sets = place_of-below family.sets set held in
      let j_low : j < length family.sets = subst (λ m. j < m) (length-map' (labels_within family.sets) family.sets) (place_of-below ins own there) in
      let k_is : set_at family.sets k ≡ set = get-place_of family.sets set held in
      let j_is : labels_within family.sets (set_at family.sets j) ≡ own = sym (get_or-map (labels_within family.sets) family.sets j [] [] j_low) ∙ get-place_of ins own there in
      let j_in : IsIn j own = subst (IsIn j) j_is (IsIn-labels_within family.sets (set_at family.sets j) j j_low (λ z i. i)) in
      let k_in : IsIn k (labels_within family.sets (set_at family.sets j)) = subst (IsIn k) (sym j_is) (own_label family is set held) in
      is.apart j k j_low k_low
      (subst (IsWithin (set_at family.sets j)) (sym k_is) (IsIn-labels_within_cases family.sets set j j_in).1)
      (IsIn-labels_within_cases family.sets (set_at family.sets j) k k_in).1

  -- each set of the maximal rows is of the labels within the set for the label that it goes to
  pub of_max_set : (set : List ℕ) → Contains (max_sets (below family) (length family.sets)) set
      → (place_of (map (labels_within family.sets) family.sets) set < length family.sets)
      × (set ≡ labels_within family.sets (set_at family.sets (place_of (map (labels_within family.sets) family.sets) set)))
  of_max_set set held =
      let (row, at, i) = max_sets-from (below family) (length family.sets) set held in
      let (line, there, p) = of_maximal family is row at in
      let (own, j, e) = Contains-map_cases (labels_within family.sets) line set (Contains-Rearranged set (Rearranged-sym p) i) in
      let known : Contains family.sets own = is.known line own there j in
      let to : place_of (map (labels_within family.sets) family.sets) set ≡ place_of family.sets own = ap (place_of (map (labels_within family.sets) family.sets)) (sym e) ∙ image_is own known in (
        subst (λ m. m < length family.sets) (sym to) (place_of-below family.sets own known),
        sym e ∙ ap (labels_within family.sets) (sym (ap (set_at family.sets) to ∙ get-place_of family.sets own known)),
      )

-- ---- the step
module _ (active passive : Family) (a : IsFamily active) (p : IsFamily passive) (opposed : AreOpposed active passive) where
  abbrev S : List (List ℕ)
  S = passive.sets

  abbrev f : List ℕ → ℕ
  f set = place_of (map (labels_within passive.sets) passive.sets) set

  -- a choice of labels from sets of the maximal rows, on the active side
  choice_opposed : (sets : List (List ℕ)) (c : List ℕ) → ((set : List ℕ) → Contains sets set → Contains (max_sets (below passive) (length passive.sets)) set)
      → IsChoice c sets → IsUnder (placed active.sets (map f sets)) (placed active.sets c) × AllByRecursion (λ x. x < length active.sets) (map f sets)
  choice_opposed [] [] h k = (tt, tt)
  choice_opposed [] (x ∷ c) h k = absurd k
  choice_opposed (s ∷ sets) [] h k = absurd k
  choice_opposed (s ∷ sets) (x ∷ c) h k =
      let m = of_max_set passive p s (h s (Contains-here s sets)) in
      let i : (x < length S) × IsWithin (set_at S x) (set_at S (f s)) = IsIn-labels_within_cases S (set_at S (f s)) x (subst (IsIn x) m.1 k.0) in
      let same = opposed.count in
      let x_low : x < length active.sets = omega (arith, i.0) in
      let f_low : f s < length active.sets = omega (arith, m.0) in
      let more = choice_opposed sets c (λ set j. h set (Contains-later set s sets j)) k.1 in
      (((opposed.within (f s) x f_low x_low).1 i.1, more.0), (f_low, more.1))

  active_met : (row : List (List ℕ)) → Contains (max_rows (below passive) (length passive.sets)) row → Has (topmost passive) (map (label_of (entries_within passive)) row)
  active_met row held =
      let (line, there, q) = of_maximal passive p row held in
      let to_f : map (label_of (entries_within passive)) row ≡ map f row = labels_of_by f (max_sets (below passive) (length passive.sets)) row (λ set i. max_sets-row (below passive) (length passive.sets) row held set i) in
      let of_line : map f (map (labels_within S) line) ≡ map (place_of S) line = map-map f (labels_within S) line ∙ map-alike (λ s. f (labels_within S s)) (place_of S) line (λ s i. image_is passive p s (p.known line s there i)) in
      subst (Has (topmost passive)) (sym to_f)
      (Has-topmost passive p line (map f row) there (subst (Rearranged (map f row)) of_line (Rearranged-map f (Rearranged-sym q))))

  passive_met : (places : List ℕ) → Contains (allowed (topmost active) (max_sets (below passive) (length passive.sets)) active.degree) places → Has (below active) (map (label_at (entries_within passive)) places)
  passive_met places held =
      let sets = max_sets (below passive) (length passive.sets) in
      let (config, allow) = ((allowed_law (topmost active) sets active.degree).1 places).0 held in
      go config allow
    where
      go : IsConfig active.degree (length (max_sets (below passive) (length passive.sets))) places → IsAllowed (topmost active) (placed (max_sets (below passive) (length passive.sets)) places)
          → Has (below active) (map (label_at (entries_within passive)) places)
      go config (c, chosen, has) =
          let sets = max_sets (below passive) (length passive.sets) in
          let two = choice_opposed (placed sets places) c (placed_in sets places config.below) chosen in
          let (line, there, q) = Has-topmost_cases active a c has in
          let count : length (map f (placed sets places)) ≡ active.degree = length-map' f (placed sets places) ∙ length-map' (set_at sets) places ∙ config.count in
          subst (Has (below active)) (sym (labels_at_by f sets places config.below))
          (Has-below active a (map f (placed sets places)) count two.1 (line, there, (placed active.sets c, q, two.0)))

  pub lower_step : IsLowerStepBySet (problem_of active passive) (problem_of passive active) (max_rows (below passive) (length passive.sets)) (entries_within passive)
  lower_step = record {
    active_degree = refl;
    passive_degree = refl;
    maximal = refl;
    sets = sets_by f (max_sets (below passive) (length passive.sets));
    active = active_met;
    passive = λ places held. passive_met places (subst (λ s. Contains (allowed (topmost active) s active.degree) places) (sets_by f (max_sets (below passive) (length passive.sets))) held);
  }

  pub is_problem : IsProblem (problem_of active passive)
  is_problem = record {
    active = subst (λ m. IsConstraint m (topmost active)) opposed.count (IsConstraint-topmost active a);
    passive = IsConstraint-below passive p;
  }

pub step_law : StepLaw
step_law active passive a p opposed = (is_problem active passive a p opposed, lower_step active passive a p opposed)
