-- A lower step leads from a problem to the derived problem of each of its relaxations.
use Rattle.std.proofs.Common.{◌≡◌, ℕ, ◌<◌, true, List, [], ◌∷◌, length, map, get_or, refl, sym, ap, ◌∙◌, subst, arith, inl, inr}
use Rattle.std.proofs.lemmas.List.{get_or-map, get_or_default}
use Rattle.std.proofs.lemmas.List.Elements.{Contains-get_or}
use Rattle.std.specs.List.{AllZip}
use Rattle.std.specs.Prelude.{Contains}
use Rattle.re_labels.proofs.Rearranging.{AllZip-at, Contains-Rearranged, Rearranged-map, Rearranged-sym, length-AllZip}
use Rattle.re_labels.proofs.Sorting.{Rearranged-sorted, sorted-Rearranged, sorted_again}
use Rattle.re_labels.specs.Configs.{sorted}
use Rattle.re_labels.specs.Orders.{multisets}
use Rattle.re_labels.specs.Rearranging.{Rearranged}
use Rattle.re_labels.specs.Rows.{IsChoice, placed, set_at}
use Rattle.re_labels.proofs.Membership.{Contains-filter, Contains-map, Contains-map_cases, Contains-none, Contains-cases, length-map'}
use Rattle.re_labels.proofs.LabelPlaces.{map-get-place_of}
use Rattle.re_labels.specs.Lists.{place_of}
use Rattle.re_labels.specs.Sets.{IsIn, IsWithin}
use Rattle.re_problem.proofs.DerivedProblem.{max_row_ascends}
use Rattle.re_problem.proofs.Places.{places_listed}
use Rattle.re_problem.specs.Derived.{derived}
use Rattle.re_problem.specs.Problems.{Problem}
use Rattle.re_problem.specs.Steps.{BecomesByRow, IsLowerStepByRow, IsRelaxed}
use Rattle.re_labels.proofs.Goodness.{IsAllowed-Rearranged, IsAllowed-is_allowed}
use Rattle.re_labels.proofs.MaxSets.{allowed_law, max_sets-row}
use Rattle.re_labels.specs.Constraints.{Has}
use Rattle.re_labels.specs.GoodRows.{allowed, is_allowed, max_rows, max_sets}
use Rattle.re_shaping.proofs.ImagesOfRows.{in_image, placed_top, top, top_is}
use Rattle.re_shaping.proofs.RelaxedSteps.{through}
use Rattle.re_shaping.specs.Laws.{DerivedRelaxationLaw}
use Rattle.re_shaping.specs.Relaxing.{row_image, set_image, top_image, top_images}

module _ (problem relaxed : Problem) (image : ℕ → ℕ) (below : (label : ℕ) → label < problem.labels → image label < relaxed.labels) (is : IsRelaxed problem relaxed image) where
  abbrev rows : List (List (List ℕ))
  rows = max_rows problem.passive problem.labels

  abbrev images : List (List ℕ)
  images = map (top_image image relaxed) (max_rows problem.passive problem.labels)

  abbrev sets : List (List ℕ)
  sets = max_sets relaxed.passive relaxed.labels

  -- the image of a row is an active configuration: a maximal row of the relaxation
  image-active : (labels : List ℕ) → Contains images labels → Has (derived relaxed).active labels
  image-active labels at =
      let (row, held, e) = Contains-map_cases (top_image image relaxed) rows labels at in
      let (there, order, inside) = top_is problem relaxed image below is row held in
      let found : List (List ℕ) = top problem relaxed image below is row held in
      let same : sorted (top_image image relaxed row) ≡ map (place_of sets) found =
      sym (sorted-Rearranged (Rearranged-map (place_of sets) order)) ∙ sorted_again (map (place_of sets) found) (max_row_ascends relaxed.passive relaxed.labels found there) in
      let config : Contains (derived relaxed).active.configs (map (place_of sets) found) = Contains-map (map (place_of sets)) (max_rows relaxed.passive relaxed.labels) found there in
      subst (Has (derived relaxed).active) e (subst (Contains (derived relaxed).active.configs) (sym same) config)

  -- a set holds the images of another one's labels, and its place is the label
  pub record Holds (set : List ℕ) (label : ℕ) : Type 0 where
    pub over : List ℕ
    pub there : Contains sets over
    pub place : place_of sets over ≡ label
    pub holds : (x : ℕ) → IsIn x set → IsIn (image x) over

  becomes : (set : List ℕ) (label : ℕ) → BecomesByRow rows images set label → Holds set label
  becomes set label (row, labels, (k, in_rows, in_images, row_at, labels_at), (j, in_row, in_labels, set_there, label_there)) =
      let held : Contains rows row = subst (Contains rows) row_at (Contains-get_or rows k row in_rows) in
      let labels_are : labels ≡ top_image image relaxed row = sym labels_at ∙ get_or-map (top_image image relaxed) rows k row labels in_rows ∙ ap (top_image image relaxed) row_at in
      let (there, order, inside) = top_is problem relaxed image below is row held in
      let found : List (List ℕ) = placed_top problem relaxed image below is row held in
      let count : length (row_image image row) ≡ length found = length-AllZip IsWithin (row_image image row) found inside in
      let count' : length (row_image image row) ≡ length row = length-map' (set_image image) row in
      let low : j < length found = omega (arith, count, count', in_row) in
      let low' : j < length (row_image image row) = omega (arith, count', in_row) in
      let member : Contains found (get_or found j []) = Contains-get_or found j [] low in
      let set_is : get_or row j [] ≡ set = sym (get_or_default row j set [] in_row) ∙ set_there in
      let image_is : get_or (row_image image row) j [] ≡ set_image image set = get_or-map (set_image image) row j [] [] in_row ∙ ap (set_image image) set_is in
      let within : IsWithin (set_image image set) (get_or found j []) = subst (λ s. IsWithin s (get_or found j [])) image_is (AllZip-at IsWithin (row_image image row) found j [] [] inside low') in
      record {
        over = get_or found j [];
        there = max_sets-row relaxed.passive relaxed.labels (top problem relaxed image below is row held) there (get_or found j []) (Contains-Rearranged (get_or found j []) (Rearranged-sym order) member);
        place = sym (get_or-map (place_of sets) found j [] label low) ∙ ap (λ (l : List ℕ). get_or l j label) (sym labels_are) ∙ label_there;
        holds = λ x at. within (image x) (in_image image set x at);
      }

  -- the sets of the labels that sets become, from which the images of a choice are chosen
  pub record Over (labels before : List ℕ) : Type 0 where
    pub over : List (List ℕ)
    pub there : (set : List ℕ) → Contains over set → Contains sets set
    pub places : map (place_of sets) over ≡ labels
    pub chosen : IsChoice (map image before) over

  all_become : (chosen : List (List ℕ)) (labels before : List ℕ) → AllZip (BecomesByRow rows images) chosen labels → IsChoice before chosen → Over labels before
  all_become [] [] [] zip choice = record { over = []; there = λ set at. absurd (Contains-none set at); places = refl; chosen = tt }
  all_become [] [] (x ∷ before) zip choice = absurd choice
  all_become [] (label ∷ labels) before zip choice = absurd zip
  all_become (set ∷ chosen) [] before zip choice = absurd zip
  all_become (set ∷ chosen) (label ∷ labels) [] zip choice = absurd choice
  all_become (set ∷ chosen) (label ∷ labels) (x ∷ before) zip choice =
      let one = becomes set label zip.0 in
      let rest = all_become chosen labels before zip.1 choice.1 in
      record {
        over = one.over ∷ rest.over;
        there = λ t at. elim (Contains-cases t one.over rest.over at) [
          | inl e ↦ subst (Contains sets) (sym e) one.there
          | inr at' ↦ rest.there t at'
        ];
        places = (λ i. one.place i ∷ rest.places i);
        chosen = (one.holds x choice.0, rest.chosen);
      }

  -- the labels that an allowed multiset becomes are a passive configuration
  allowed-passive : (places labels : List ℕ) → Contains (allowed problem.active (max_sets problem.passive problem.labels) problem.active.degree) places
      → AllZip (BecomesByRow rows images) (placed (max_sets problem.passive problem.labels) places) labels → Has (derived relaxed).passive labels
  allowed-passive places labels held zip =
      let (config, (before, choice, fits)) = ((allowed_law problem.active (max_sets problem.passive problem.labels) problem.active.degree).1 places).0 held in
      let chosen : List (List ℕ) = placed (max_sets problem.passive problem.labels) places in
      let whole = all_become chosen labels before zip choice in
      let count : length whole.over ≡ relaxed.active.degree =
      sym (length-AllZip IsIn (map image before) whole.over whole.chosen) ∙ length-map' image before ∙ length-AllZip IsIn before chosen choice
      ∙ length-map' (set_at (max_sets problem.passive problem.labels)) places ∙ config.count ∙ sym is.active_degree in
      let listed : Contains (multisets relaxed.active.degree 0 (length sets)) (sorted (map (place_of sets) whole.over)) =
      subst (λ n. Contains (multisets n 0 (length sets)) (sorted (map (place_of sets) whole.over))) count (places_listed sets whole.over whole.there) in
      let back : map (set_at sets) (map (place_of sets) whole.over) ≡ whole.over = map-get-place_of sets whole.over whole.there in
      let order : Rearranged whole.over (placed sets (sorted (map (place_of sets) whole.over))) =
      subst (λ row. Rearranged row (placed sets (sorted (map (place_of sets) whole.over)))) back (Rearranged-map (set_at sets) (Rearranged-sorted (map (place_of sets) whole.over))) in
      let some : is_allowed relaxed.active (placed sets (sorted (map (place_of sets) whole.over))) ≡ true =
      IsAllowed-is_allowed relaxed.active (placed sets (sorted (map (place_of sets) whole.over)))
      (IsAllowed-Rearranged relaxed.active order (map image before, whole.chosen, through image relaxed.active problem.active before is.active fits)) in
      subst (Has (derived relaxed).passive) whole.places
      (Contains-filter (λ places. is_allowed relaxed.active (placed sets places)) (multisets relaxed.active.degree 0 (length sets)) (sorted (map (place_of sets) whole.over)) listed some)

  pub to-derived : IsLowerStepByRow problem (derived relaxed) (max_rows problem.passive problem.labels) (top_images image relaxed (max_rows problem.passive problem.labels))
  to-derived = record {
    active_degree = is.passive_degree;
    passive_degree = is.active_degree;
    maximal = refl;
    count = length-map' (top_image image relaxed) rows;
    active = image-active;
    passive = allowed-passive;
  }

pub derived_relaxation : DerivedRelaxationLaw
derived_relaxation problem relaxed image below is = to-derived problem relaxed image below is
