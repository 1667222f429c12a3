-- A lower step to a relaxation of its next problem.
use Rattle.std.proofs.Common.{◌≡◌, ℕ, ◌<◌, List, [], ◌∷◌, length, map, get_or, refl, sym, ap, ◌∙◌, subst, arith}
use Rattle.std.proofs.lemmas.List.{get_or-map, get_or_default}
use Rattle.std.specs.List.{AllZip}
use Rattle.std.specs.Prelude.{Contains}
use Rattle.re_labels.proofs.Sorting.{sorted_map}
use Rattle.re_labels.specs.Configs.{IsConfig, sorted}
use Rattle.re_labels.specs.Rows.{placed}
use Rattle.re_labels.proofs.Membership.{AllByRecursion-contains, Contains-map_cases, length-map', map-alike}
use Rattle.re_labels.proofs.LabelPlaces.{place_of-below}
use Rattle.re_labels.specs.Lists.{place_of}
use Rattle.re_problem.proofs.StepLaws.{map-map}
use Rattle.re_problem.specs.Problems.{Problem}
use Rattle.re_problem.specs.Steps.LowerMap.{by_row, by_set}
use Rattle.re_problem.specs.Steps.{BecomesByRow, IsLowerStepByRow, IsLowerStepBySet, IsRelaxed, SetEntry, entry_sets, label_at, label_of}
use Rattle.re_labels.proofs.MaxSets.{allowed_law, max_sets-row}
use Rattle.re_labels.specs.Constraints.{Constraint, Has}
use Rattle.re_labels.specs.GoodRows.{allowed, max_sets}
use Rattle.re_shaping.specs.Chains.{entry_sent}
use Rattle.re_shaping.specs.Laws.{RelaxedStepLaw}

-- ---- entries sent along
pub sets-same : (image : ℕ → ℕ) (entries : List SetEntry) → entry_sets (map (entry_sent image) entries) ≡ entry_sets entries
sets-same image entries = map-map (λ (entry : SetEntry). entry.set) (entry_sent image) entries

label-sent : (image : ℕ → ℕ) (entries : List SetEntry) (k : ℕ) → k < length entries → label_at (map (entry_sent image) entries) k ≡ image (label_at entries k)
label-sent image entries k l = ap (λ (entry : SetEntry). entry.label) (get_or-map (entry_sent image) entries k (record { set = []; label = 0 }) (record { set = []; label = 0 }) l)

-- ---- the images of labels that a constraint has
pub through : (image : ℕ → ℕ) (constraint next : Constraint) (labels : List ℕ) → ((config : List ℕ) → Contains next.configs config → Has constraint (map image config)) → Has next labels → Has constraint (map image labels)
through image constraint next labels h held = subst (Contains constraint.configs) (sorted_map image labels) (h (sorted labels) held)

module _ (image : ℕ → ℕ) (problem next relaxed : Problem) (rows : List (List (List ℕ))) (is : IsRelaxed next relaxed image) where
  -- ---- by sets
  module _ (entries : List SetEntry) (lower : IsLowerStepBySet problem next rows entries) where
    sent : List SetEntry
    sent = map (entry_sent image) entries

    count : length (entry_sets entries) ≡ length entries
    count = length-map' (λ (entry : SetEntry). entry.set) entries

    of_place : (k : ℕ) → k < length (entry_sets entries) → label_at (map (entry_sent image) entries) k ≡ image (label_at entries k)
    of_place k l = label-sent image entries k (let c = count in omega arith)

    of_set : (set : List ℕ) → Contains (entry_sets entries) set → label_of (map (entry_sent image) entries) set ≡ image (label_of entries set)
    of_set set at = ap (λ s. label_at (map (entry_sent image) entries) (place_of s set)) (sets-same image entries) ∙ of_place (place_of (entry_sets entries) set) (place_of-below (entry_sets entries) set at)

    of_row : (row : List (List ℕ)) → Contains rows row → map image (map (label_of entries) row) ≡ map (label_of (map (entry_sent image) entries)) row
    of_row row held =
        map-map image (label_of entries) row
        ∙ sym (map-alike (label_of (map (entry_sent image) entries)) (λ set. image (label_of entries set)) row (λ set at.
        of_set set (subst (λ (s : List (List ℕ)). Contains s set) (sym lower.sets)
        (max_sets-row problem.passive problem.labels row (subst (λ (m : List (List (List ℕ))). Contains m row) lower.maximal held) set at))))

    of_places : (places : List ℕ) → Contains (allowed problem.active (entry_sets entries) problem.active.degree) places → map image (map (label_at entries) places) ≡ map (label_at (map (entry_sent image) entries)) places
    of_places places held =
        let config : IsConfig problem.active.degree (length (entry_sets entries)) places = (((allowed_law problem.active (entry_sets entries) problem.active.degree).1 places).0 held).0 in
        map-map image (label_at entries) places
        ∙ sym (map-alike (label_at (map (entry_sent image) entries)) (λ k. image (label_at entries k)) places (λ k at.
        of_place k (AllByRecursion-contains (λ x. x < length (entry_sets entries)) places k config.below at)))

    pub relaxed-by_set : IsLowerStepBySet problem relaxed rows (map (entry_sent image) entries)
    relaxed-by_set = record {
      active_degree = is.active_degree ∙ lower.active_degree;
      passive_degree = is.passive_degree ∙ lower.passive_degree;
      maximal = lower.maximal;
      sets = sets-same image entries ∙ lower.sets;
      active = λ row held. subst (Has relaxed.active) (of_row row held) (through image relaxed.active next.active (map (label_of entries) row) is.active (lower.active row held));
      passive = λ places held.
          let there : Contains (allowed problem.active (entry_sets entries) problem.active.degree) places = subst (λ (s : List (List ℕ)). Contains (allowed problem.active s problem.active.degree) places) (sets-same image entries) held in
          subst (Has relaxed.passive) (of_places places there) (through image relaxed.passive next.passive (map (label_at entries) places) is.passive (lower.passive places there));
    }

  -- ---- by rows
  module _ (images : List (List ℕ)) (lower : IsLowerStepByRow problem next rows images) where
    -- what a set becomes is the image of what it became
    becomes : (set : List ℕ) (label : ℕ) → BecomesByRow rows (map (map image) images) set label → (x : ℕ) × BecomesByRow rows images set x × (image x ≡ label)
    becomes set label (row, sent, (k, lr, li, sr, si), (j, ls, ll, ss, sl)) =
        let there : k < length images = (let c = length-map' (map image) images in omega arith) in
        let from : List ℕ = get_or images k [] in
        let same : map image from ≡ sent = sym (get_or-map (map image) images k [] sent there) ∙ si in
        let low : j < length from = (let c = length-map' image from in let e = ap length same in omega arith) in
        let x : ℕ = get_or from j 0 in (
          x,
          (row, from, (k, lr, there, sr, get_or_default images k from [] there), (j, ls, low, ss, get_or_default from j x 0 low)),
          sym (get_or-map image from j 0 label low) ∙ ap (λ (l : List ℕ). get_or l j label) same ∙ sl,
        )

    all_become : (sets : List (List ℕ)) (labels : List ℕ) → AllZip (BecomesByRow rows (map (map image) images)) sets labels → (before : List ℕ) × AllZip (BecomesByRow rows images) sets before × (map image before ≡ labels)
    all_become [] [] zip = ([], tt, refl)
    all_become [] (label ∷ labels) zip = absurd zip
    all_become (set ∷ sets) [] zip = absurd zip
    all_become (set ∷ sets) (label ∷ labels) zip =
        let (x, one, e) = becomes set label zip.0 in
        let (before, rest, f) = all_become sets labels zip.1 in
        (x ∷ before, (one, rest), (λ i. e i ∷ f i))

    pub relaxed-by_row : IsLowerStepByRow problem relaxed rows (map (map image) images)
    relaxed-by_row = record {
      active_degree = is.active_degree ∙ lower.active_degree;
      passive_degree = is.passive_degree ∙ lower.passive_degree;
      maximal = lower.maximal;
      count = length-map' (map image) images ∙ lower.count;
      active = λ sent held.
          let (from, at, e) = Contains-map_cases (map image) images sent held in
          subst (Has relaxed.active) e (through image relaxed.active next.active from is.active (lower.active from at));
      passive = λ places labels held zip.
          let (before, from, e) = all_become (placed (max_sets problem.passive problem.labels) places) labels zip in
          subst (Has relaxed.passive) e (through image relaxed.passive next.passive before is.passive (lower.passive places before held from));
    }

pub relaxed-step : RelaxedStepLaw
relaxed-step problem next relaxed rows (by_set entries) image lower is = relaxed-by_set image problem next relaxed rows is entries lower
relaxed-step problem next relaxed rows (by_row images) image lower is = relaxed-by_row image problem next relaxed rows is images lower
