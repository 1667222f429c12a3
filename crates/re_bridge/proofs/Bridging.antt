-- What the bridge tells of all maps.
use Rattle.std.proofs.Common.{◌≡◌, ℕ, zero, suc, ◌<◌, ◌+◌, ◌*◌, ◌/◌, Bool, true, false, cond, eqb, List, [], ◌∷◌, ◌++◌, length, map, take, drop, get_or, None, Some, Option, refl, sym, ap, ◌∙◌, subst, arith, true≢false, length-append}
use Rattle.std.specs.Prelude.{Contains}
use Rattle.std.specs.List.{AllByRecursion}
use Rattle.std.proofs.lemmas.List.{drop-drop, take_all, take_at}
use Rattle.std.proofs.Math.Seq.{drop-append-add, take-add}
use Rattle.re_labels.proofs.Rearranging.{Contains-Rearranged}
use Rattle.re_labels.proofs.Sorting.{Rearranged-sorted}
use Rattle.re_labels.specs.Configs.{IsConfig, sorted}
use Rattle.re_check.proofs.NextLabels.{label-entry}
use Rattle.re_check.proofs.RowSets.{place_of-there}
use Rattle.re_check.proofs.Telling.{held-read, read-held}
use Rattle.re_check.proofs.AllowedImages.{mapped}
use Rattle.re_check.specs.RowEntries.{row_entries}
use Rattle.re_labels.proofs.Membership.{AllByRecursion-contains, AllByRecursion-from_contains, Contains-map, length-map'}
use Rattle.re_labels.proofs.Tests.{eqb-same, true-and}
use Rattle.re_labels.specs.Lists.{IsBefore, IsRising, count_from, place_of}
use Rattle.re_labels.specs.Sets.{number}
use Rattle.re_labels.proofs.MaxSets.{max_sets_law}
use Rattle.re_labels.specs.Constraints.{Constraint, Has, IsConstraint}
use Rattle.re_labels.proofs.ConstraintImages.{held_labels}
use Rattle.re_problem.specs.NamedProblems.{IsNamedProblem, NamedProblem, unnamed}
use Rattle.re_problem.specs.Steps.{IsLowerStepByRow, IsLowerStepBySet, LowerMap, SetEntry, entry_sets, label_at, label_of}
use Rattle.re_problem.specs.Steps.LowerMap.{by_row, by_set}
use Rattle.re_cert.specs.declared.certificate.StepParts.{StepParts}
use Rattle.re_check.specs.StepClauses.{entry_labels}
use Rattle.re_check.proofs.StepMeaning.{lower_clauses}
use Rattle.re_check.specs.Clauses.{are_exchanged, step_fault}
use Rattle.re_bridge.proofs.Beginnings.{set_beginnings}
use Rattle.re_bridge.proofs.Meeting.{passes-row_step, passes-step, row_step-passes, rows-whole, step-passes}
use Rattle.re_bridge.proofs.RowBeginnings.{row_beginnings}
use Rattle.re_walks.proofs.FirstEntries.{low-append}
use Rattle.re_walks.proofs.WalkLemmas.{walk_law}
use Rattle.re_bridge.specs.Bridges.{IsFound, entries_for, image_of, images_for, missing, over, passes_by_row, passes_by_set, row_bridge, rows_of, set_bridge, sets_of, step_by, walk_by_row, walk_by_set}
use Rattle.re_bridge.specs.Laws.{BridgeLaw, IsAnswer, IsBridge, Meets, image_labels}
use Rattle.re_walks.specs.Walking.{IsAssignment, Tells, Walk, cut, found, nowhere}

-- ---- labels of a configuration
held_label : (n : ℕ) (constraint : Constraint) (labels : List ℕ) (x : ℕ) → IsConstraint n constraint → Has constraint labels → Contains labels x → x < n
held_label n constraint labels x is has at =
    let config : IsConfig constraint.degree n (sorted labels) = AllByRecursion-contains (IsConfig constraint.degree n) constraint.configs (sorted labels) is.configs has in
    AllByRecursion-contains (λ y. y < n) (sorted labels) x config.below (Contains-Rearranged x (Rearranged-sorted labels) at)

-- ---- maps by sets
-- entries are those of their sets with their labels
entries_again : (entries : List SetEntry) → row_entries (entry_sets entries) (entry_labels entries) ≡ entries
entries_again [] = refl
entries_again (e ∷ entries) = ap (λ es. e ∷ es) (entries_again entries)

module _ (before next : NamedProblem) (is : IsNamedProblem before) (next_is : IsNamedProblem next) where
  -- a step by sets has a label of the next problem for each set
  pub set_assignment : (entries : List SetEntry) → IsLowerStepBySet (unnamed before) (unnamed next) (rows_of before) entries → IsAssignment (length next.names) (length (sets_of before)) (entry_labels entries)
  set_assignment entries step = (
    length-map' (λ (e : SetEntry). e.label) entries ∙ sym (length-map' (λ (e : SetEntry). e.set) entries) ∙ ap length step.sets,
    AllByRecursion-from_contains (λ label. label < length next.names) (entry_labels entries) low,
  )
    where
      law : IsRising (λ s t. number s < number t) (sets_of before)
      law = (max_sets_law before.passive (length before.names)).0

      low : (x : ℕ) → Contains (entry_labels entries) x → x < length next.names
      low x held =
          let (i, l, at) = held-read (entry_labels entries) x 0 held in
          let long : i < length entries = subst (λ m. i < m) (length-map' (λ (e : SetEntry). e.label) entries) l in
          let there : i < length (entry_sets entries) = subst (λ m. i < m) (sym (length-map' (λ (e : SetEntry). e.set) entries)) long in
          let set : List ℕ = get_or (entry_sets entries) i [] in
          let (row, row_held, set_held) = ((max_sets_law before.passive (length before.names)).1 set).0 (subst (λ (sets : List (List ℕ)). Contains sets set) step.sets (read-held (entry_sets entries) i [] there)) in
          let place : place_of (entry_sets entries) set ≡ i = place_of-there (entry_sets entries) i set (subst (IsRising (λ s t. number s < number t)) (sym step.sets) law) there refl in
          let label_is : label_of entries set ≡ x = ap (label_at entries) place ∙ sym (label-entry entries i) ∙ at in
          subst (λ y. y < length next.names) label_is
          (held_label (length next.names) next.active (map (label_of entries) row) (label_of entries set) next_is.problem.active (step.active row row_held) (Contains-map (label_of entries) row set set_held))

  -- the degrees of a lower step are exchanged
  step_exchanged : (map : LowerMap) → step_fault before (step_by before next map) ≡ None → are_exchanged before next ≡ true
  step_exchanged (by_set entries) met =
      let step : IsLowerStepBySet (unnamed before) (unnamed next) (rows_of before) entries = (lower_clauses before (step_by before next (by_set entries)) refl).0 met in
      true-and _ _ (ap (λ d. eqb d before.passive.degree) step.active_degree ∙ eqb-same before.passive.degree) (ap (λ d. eqb d before.active.degree) step.passive_degree ∙ eqb-same before.active.degree)
  step_exchanged (by_row images) met =
      let step : IsLowerStepByRow (unnamed before) (unnamed next) (rows_of before) images = (lower_clauses before (step_by before next (by_row images)) refl).0 met in
      true-and _ _ (ap (λ d. eqb d before.passive.degree) step.active_degree ∙ eqb-same before.passive.degree) (ap (λ d. eqb d before.active.degree) step.passive_degree ∙ eqb-same before.active.degree)

-- images of d labels each
abbrev Alike : ℕ → List (List ℕ) → Type 0
Alike d images = AllByRecursion (λ image. length image ≡ d) images

labels-length : (d : ℕ) (images : List (List ℕ)) → Alike d images → length (image_labels images) ≡ length images * d
labels-length d [] alike = (let z : 0 ≡ 0 * d = omega arith in z)
labels-length d (image ∷ images) alike = omega (arith, length-append image (image_labels images), alike.0, labels-length d images alike.1)

labels-low : (n : ℕ) (images : List (List ℕ)) → AllByRecursion (AllByRecursion (λ x. x < n)) images → AllByRecursion (λ x. x < n) (image_labels images)
labels-low n [] low = tt
labels-low n (image ∷ images) low = low-append n image (image_labels images) low.0 (labels-low n images low.1)

-- the image at a place is cut out of the labels
image-cut : (d : ℕ) (images : List (List ℕ)) (i : ℕ) → Alike d images → i < length images → get_or images i [] ≡ image_of d (image_labels images) i
image-cut d [] i alike l = absurd (omega arith)
image-cut d (image ∷ images) zero alike l = sym (ap (λ m. take d (drop m (image ++ image_labels images))) (let z : 0 * d ≡ 0 = omega arith in z) ∙ take_at image (image_labels images) d alike.0)
image-cut d (image ∷ images) (suc i) alike l =
    image-cut d images i alike.1 (omega arith)
    ∙ sym (ap (λ m. take d (drop m (image ++ image_labels images))) (let z : suc i * d ≡ length image + i * d = omega (arith, alike.0) in z) ∙ ap (take d) (drop-append-add image (image_labels images) (i * d)))

-- the labels of images that are cut out of labels are these
cut-labels : (d : ℕ) (labels : List ℕ) (m i : ℕ) → image_labels (map (image_of d labels) (count_from i m)) ≡ take (m * d) (drop (i * d) labels)
cut-labels d labels zero i = sym (ap (λ k. take k (drop (i * d) labels)) (let z : 0 * d ≡ 0 = omega arith in z))
cut-labels d labels (suc m) i =
    ap (λ l. image_of d labels i ++ l) (cut-labels d labels m (suc i) ∙ ap (λ k. take (m * d) (drop k labels)) (let z : suc i * d ≡ i * d + d = omega arith in z) ∙ ap (take (m * d)) (sym (drop-drop d (i * d) labels)))
    ∙ sym (take-add d (m * d) (drop (i * d) labels)) ∙ ap (λ k. take k (drop (i * d) labels)) (let z : d + m * d ≡ suc m * d = omega arith in z)

set-labels : (sets : List (List ℕ)) (labels : List ℕ) → length labels ≡ length sets → entry_labels (row_entries sets labels) ≡ labels
set-labels [] [] e = refl
set-labels [] (x ∷ labels) e = absurd (omega (arith, e))
set-labels (s ∷ sets) [] e = absurd (omega (arith, e))
set-labels (s ∷ sets) (x ∷ labels) e = ap (λ l. x ∷ l) (set-labels sets labels (omega (arith, e)))

module _ (before next : NamedProblem) (is : IsNamedProblem before) (next_is : IsNamedProblem next) (exchanged : are_exchanged before next ≡ true) where
  some_degree : 0 < next.active.degree
  some_degree = omega (arith, next_is.problem.active.least)

  -- a step by rows has labels of the next problem for all places, and its images are cut out of them
  row_labels : (images : List (List ℕ)) → Meets before next (by_row images)
      → IsAssignment (length next.names) (length (rows_of before) * next.active.degree) (image_labels images) × (images_for next.active.degree (image_labels images) ≡ images)
  row_labels images met =
      let step : IsLowerStepByRow (unnamed before) (unnamed next) (rows_of before) images = (lower_clauses before (step_by before next (by_row images)) refl).0 met in
      let alike : Alike next.active.degree images = AllByRecursion-from_contains (λ image. length image ≡ next.active.degree) images (λ image held. (held_labels (length next.names) next.active image next_is.problem.active (step.active image held)).0) in
      let low : AllByRecursion (AllByRecursion (λ x. x < length next.names)) images
      = AllByRecursion-from_contains (AllByRecursion (λ x. x < length next.names)) images (λ image held. (held_labels (length next.names) next.active image next_is.problem.active (step.active image held)).1) in
      let count : length (image_labels images) ≡ length (rows_of before) * next.active.degree = labels-length next.active.degree images alike ∙ ap (λ m. m * next.active.degree) step.count in
      let whole : length (image_labels images) / next.active.degree ≡ length (rows_of before) = rows-whole before next exchanged (image_labels images) some_degree count in (
        (count, labels-low (length next.names) images low),
        ap (λ m. map (image_of next.active.degree (image_labels images)) (count_from 0 m)) (whole ∙ sym step.count)
            ∙ sym (mapped (image_of next.active.degree (image_labels images)) images (length images) refl (λ k l. image-cut next.active.degree images k alike l)),
      )

  row_map_passes : (images : List (List ℕ)) → Meets before next (by_row images) → passes_by_row before next (image_labels images) ≡ true
  row_map_passes images met =
      let (assignment, again) = row_labels images met in
      row_step-passes before next exchanged (image_labels images) some_degree assignment.0 (subst (λ (l : List (List ℕ)). Meets before next (by_row l)) (sym again) met)

  set_map_passes : (entries : List SetEntry) → Meets before next (by_set entries) → passes_by_set before next (entry_labels entries) ≡ true
  set_map_passes entries met =
      let step : IsLowerStepBySet (unnamed before) (unnamed next) (rows_of before) entries = (lower_clauses before (step_by before next (by_set entries)) refl).0 met in
      let again : entries_for before (entry_labels entries) ≡ entries = ap (λ sets. row_entries sets (entry_labels entries)) (sym step.sets) ∙ entries_again entries in
      step-passes before next exchanged (entry_labels entries) (subst (λ (es : List SetEntry). Meets before next (by_set es)) (sym again) met)

  set_assigned : (entries : List SetEntry) → Meets before next (by_set entries) → IsAssignment (length next.names) (length (sets_of before)) (entry_labels entries)
  set_assigned entries met = set_assignment before next is next_is entries ((lower_clauses before (step_by before next (by_set entries)) refl).0 met)

  by_set_told : (walked : Walk) → Tells (passes_by_set before next) (length next.names) (length (sets_of before)) walked → (rowed : Walk)
      → Tells (passes_by_row before next) (length next.names) (length (rows_of before) * next.active.degree) rowed → (tries : ℕ) → rowed ≡ walk_by_row before next tries
      → IsBridge before next (set_bridge before next tries walked)
  by_set_told (found labels) told rowed row_told tries same = record {
    meets = passes-step before next exchanged labels told.assignment.0 told.meets;
    first = λ others earlier met. true≢false (sym (set_map_passes others met)
        ∙ told.first (entry_labels others) (set_assigned others met) (subst (IsBefore (entry_labels others)) (set-labels (sets_of before) labels told.assignment.0) earlier));
  }
  by_set_told nowhere told rowed row_told tries same = subst (λ w. IsBridge before next (row_bridge next w)) same (by_row_told rowed row_told)
    where
      no_sets : (entries : List SetEntry) → Meets before next (by_set entries) → ⊥
      no_sets entries met = true≢false (sym (set_map_passes entries met) ∙ told (entry_labels entries) (set_assigned entries met))

      by_row_told : (w : Walk) → Tells (passes_by_row before next) (length next.names) (length (rows_of before) * next.active.degree) w → IsBridge before next (row_bridge next w)
      by_row_told (found labels) row_is =
          let whole : length labels / next.active.degree ≡ length (rows_of before) = rows-whole before next exchanged labels some_degree row_is.assignment.0 in
          let cut_is : image_labels (images_for next.active.degree labels) ≡ labels
          = cut-labels next.active.degree labels (length labels / next.active.degree) 0 ∙ ap (λ m. take (m * next.active.degree) (drop (0 * next.active.degree) labels)) whole
          ∙ ap (λ m. take (length (rows_of before) * next.active.degree) (drop m labels)) (let z : 0 * next.active.degree ≡ 0 = omega arith in z)
          ∙ take_all (length (rows_of before) * next.active.degree) labels (omega (arith, row_is.assignment.0)) in
          record {
            meets = passes-row_step before next exchanged labels some_degree row_is.assignment.0 row_is.meets;
            first = λ others earlier met. true≢false (sym (row_map_passes others met)
                ∙ row_is.first (image_labels others) (row_labels others met).0 (subst (IsBefore (image_labels others)) cut_is earlier));
            no_sets = no_sets;
          }
      by_row_told nowhere row_is = none
        where
          none : (map : LowerMap) → Meets before next map → ⊥
          none (by_set entries) met = no_sets entries met
          none (by_row images) met = true≢false (sym (row_map_passes images met) ∙ row_is (image_labels images) (row_labels images met).0)
      by_row_told cut row_is = tt
  by_set_told cut told rowed row_told tries same = tt

pub bridge_law : BridgeLaw
bridge_law before next tries is next_is = go (are_exchanged before next) refl
  where
    go : (b : Bool) → b ≡ are_exchanged before next → IsBridge before next (cond b (set_bridge before next tries (walk_by_set before next tries)) missing)
    go true e =
        by_set_told before next is next_is (sym e) (walk_by_set before next tries)
        (walk_law (passes_by_set before next) (length next.names) (length (sets_of before)) tries (set_beginnings before next (length next.names) (length (sets_of before)) is))
        (walk_by_row before next tries)
        (walk_law (passes_by_row before next) (length next.names) (length (rows_of before) * next.active.degree) tries (row_beginnings before next (sym e) is next_is))
        tries refl
    go false e = λ map met. true≢false (sym (step_exchanged before next is next_is map met) ∙ sym e)

pub answered : (before next : NamedProblem) (tries : ℕ) (parts : Option StepParts) → IsNamedProblem before → IsNamedProblem next → IsFound before next tries parts → IsAnswer before next parts
answered before next tries None is next_is e = subst (IsBridge before next) e (bridge_law before next tries is next_is)
answered before next tries (Some parts) is next_is (map, e, same, few) = ap (step_fault before) same ∙ met map (subst (IsBridge before next) e (bridge_law before next tries is next_is))
  where
    met : (map : LowerMap) → IsBridge before next (over map) → Meets before next map
    met (by_set entries) h = h.meets
    met (by_row images) h = h.meets
