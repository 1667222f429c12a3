-- The step from a problem to the problem between that goes with the closure of a relaxation.
use Rattle.std.proofs.Common.{◌≡◌, ℕ, ◌<◌, ◌≤◌, List, [], ◌∷◌, map, refl, ap, ◌∙◌, subst}
use Rattle.std.specs.List.{AllByRecursion}
use Rattle.std.specs.Prelude.{Contains}
use Rattle.re_algo.specs.Constructions.{IsSeen, top_places}
use Rattle.re_shaping.proofs.DerivedRelaxations.{derived_relaxation}
use Rattle.re_shaping.proofs.ImagesOfRows.{all_seen, from_image, image-set, in_image, placed_top, row-sets, top, top_is}
use Rattle.re_shaping.proofs.RelaxedSteps.{relaxed-step}
use Rattle.re_shaping.specs.Relaxing.{row_image, set_image, top_image, top_images}
use Rattle.re_labels.proofs.Rearranging.{Contains-Rearranged, Rearranged-sym}
use Rattle.re_labels.proofs.Membership.{AllByRecursion-contains, map-alike}
use Rattle.re_labels.proofs.LabelPlaces.{get-place_of, place_of-below}
use Rattle.re_labels.specs.Lists.{place_of}
use Rattle.re_labels.specs.Sets.{IsIn, IsLabelSet}
use Rattle.re_labels.specs.declared.TheConstants.{MAX_LABELS}
use Rattle.re_problem.proofs.StepLaws.{IsRelaxed-lower, map-map}
use Rattle.re_problem.specs.Derived.{derived}
use Rattle.re_problem.specs.Problems.{IsProblem, Problem}
use Rattle.re_problem.specs.Steps.LowerMap.{by_row}
use Rattle.re_problem.specs.Steps.{IsLowerStepByRow, IsRelaxed, SetEntry, label_at}
use Rattle.re_labels.proofs.MaxSets.{max_sets-row}
use Rattle.re_labels.specs.GoodRows.{max_rows, max_sets}
use Rattle.re_closure_laws.proofs.Closing.{closure_bound_law}
use Rattle.re_closure_laws.proofs.Entries.{label_at_by}
use Rattle.re_closure_laws.proofs.Generated.{same_set}
use Rattle.re_closure_laws.specs.Closures.{AreClosure}
use Rattle.re_closure_laws.specs.Lines.{Family, entries_to, problem_of}
use Rattle.re_closure.specs.RaisedClosures.{RaisedStepLaw, raised_images}

-- ---- where each label stays, a row is its image
row_again : (n : ℕ) (row : List (List ℕ)) → AllByRecursion (IsLabelSet n) row → row_image (λ x. x) row ≡ row
row_again n [] of = refl
row_again n (set ∷ row) of = λ i. set_again i ∷ row_again n row of.1 i
  where
    set_again : set_image (λ x. x) set ≡ set
    set_again = same_set n (set_image (λ x. x) set) set (image-set (λ x. x) n n set (λ label l. l) of.0) of.0
        (λ y at. let (x, there, e) = from_image (λ x. x) set y at in subst (λ z. IsIn z set) e there) (λ x at. in_image (λ x. x) set x at)

module _ (problem relaxed : Problem) (same : problem.labels ≡ relaxed.labels) (is : IsRelaxed problem relaxed (λ x. x)) where
  abbrev rows : List (List (List ℕ))
  rows = max_rows problem.passive problem.labels

  abbrev tops : List (List (List ℕ))
  tops = max_rows relaxed.passive relaxed.labels

  low : (label : ℕ) → label < problem.labels → label < relaxed.labels
  low label l = subst (λ n. label < n) same l

  again : (row : List (List ℕ)) → Contains (max_rows problem.passive problem.labels) row → row_image (λ x. x) row ≡ row
  again row held = row_again problem.labels row (AllByRecursion-contains (AllByRecursion (IsLabelSet problem.labels)) rows row (row-sets problem.passive problem.labels) held)

  -- what the program asks of each row
  pub raised_seen : IsProblem problem → relaxed.labels ≤ MAX_LABELS → (row : List (List ℕ)) → Contains (max_rows problem.passive problem.labels) row → IsSeen (max_rows relaxed.passive relaxed.labels) row
  raised_seen fine few row held =
      subst (IsSeen tops) (again row held)
      (AllByRecursion-contains (λ row. IsSeen tops (row_image (λ x. x) row)) rows row (all_seen problem relaxed (λ x. x) low is fine few) held)

  module _ (active passive : Family) (fine : IsProblem relaxed) (closure : AreClosure relaxed active passive) where
    abbrev entries : List SetEntry
    entries = entries_to relaxed passive

    abbrev sets : List (List ℕ)
    sets = max_sets relaxed.passive relaxed.labels

    first : IsLowerStepByRow problem (derived relaxed) (max_rows problem.passive problem.labels) (top_images (λ x. x) relaxed (max_rows problem.passive problem.labels))
    first = derived_relaxation problem relaxed (λ x. x) low is

    between : IsRelaxed (derived relaxed) (problem_of passive active) (label_at (entries_to relaxed passive))
    between = IsRelaxed-lower relaxed (problem_of passive active) tops entries (closure_bound_law relaxed active passive fine closure).first

    -- the entry at the place of a set has its label
    one_label : (set : List ℕ) → Contains (max_sets relaxed.passive relaxed.labels) set → label_at (entries_to relaxed passive) (place_of (max_sets relaxed.passive relaxed.labels) set) ≡ place_of passive.sets set
    one_label set held = label_at_by (place_of passive.sets) sets (place_of sets set) (place_of-below sets set held) ∙ ap (place_of passive.sets) (get-place_of sets set held)

    one_image : (row : List (List ℕ)) → Contains (max_rows problem.passive problem.labels) row
        → map (label_at (entries_to relaxed passive)) (top_image (λ x. x) relaxed row) ≡ top_places (max_rows relaxed.passive relaxed.labels) passive.sets row
    one_image row held =
        let (there, order, inside) = top_is problem relaxed (λ x. x) low is row held in
        let found : List (List ℕ) = placed_top problem relaxed (λ x. x) low is row held in
        map-map (label_at entries) (place_of sets) found
        ∙ map-alike (λ set. label_at entries (place_of sets set)) (place_of passive.sets) found (λ set at.
        one_label set (max_sets-row relaxed.passive relaxed.labels (top problem relaxed (λ x. x) low is row held) there set (Contains-Rearranged set (Rearranged-sym order) at)))
        ∙ ap (top_places tops passive.sets) (again row held)

    images_are : map (map (label_at (entries_to relaxed passive))) (top_images (λ x. x) relaxed (max_rows problem.passive problem.labels)) ≡ raised_images problem relaxed passive
    images_are =
        map-map (map (label_at entries)) (top_image (λ x. x) relaxed) rows
        ∙ map-alike (λ row. map (label_at entries) (top_image (λ x. x) relaxed row)) (top_places tops passive.sets) rows one_image

    pub raised-step : IsLowerStepByRow problem (problem_of passive active) (max_rows problem.passive problem.labels) (raised_images problem relaxed passive)
    raised-step =
        subst (IsLowerStepByRow problem (problem_of passive active) rows) images_are
        (relaxed-step problem (derived relaxed) (problem_of passive active) rows (by_row (top_images (λ x. x) relaxed rows)) (label_at entries) first between)

pub raised_step_law : RaisedStepLaw
raised_step_law problem relaxed active passive fine same is closure = raised-step problem relaxed same is active passive fine closure
