-- The step by a map that is found meets its clauses.
use Rattle.std.proofs.Common.{◌≡◌, ℕ, ◌<◌, ◌+◌, ◌-◌, ◌*◌, ◌/◌, Bool, true, false, cond, eqb, not, List, [], ◌∷◌, length, map, drop, None, refl, sym, ap, ◌∙◌, subst, arith, true≢false, length-drop}
use Rattle.std.specs.Prelude.{◌&&◌, ◌||◌, Contains}
use Rattle.std.proofs.lemmas.Nat.{div-mul-add}
use Rattle.re_labels.proofs.Membership.{length-count_from, length-map'}
use Rattle.re_labels.proofs.Tests.{and-true, eqb-true, true-and}
use Rattle.re_labels.specs.Lists.{count_from}
use Rattle.re_labels.proofs.Goodness.{Has-has_config, has_config-Has}
use Rattle.re_labels.proofs.MaxSets.{max_sets-row}
use Rattle.re_labels.specs.Constraints.{Constraint, Has, has_config}
use Rattle.re_problem.specs.NamedProblems.{NamedProblem, unnamed}
use Rattle.re_problem.specs.Steps.{IsLowerStepByRow, IsLowerStepBySet, SetEntry, entry_sets, label_of}
use Rattle.re_problem.specs.Steps.LowerMap.{by_row, by_set}
use Rattle.re_check.proofs.RowSets.{HasSetsOf}
use Rattle.re_check.specs.RowEntries.{row_entries}
use Rattle.re_check.proofs.StepMeaning.{all_held, all_there, by_row-tells, lower_clauses}
use Rattle.re_check.specs.Clauses.{are_exchanged, keep_allowed, keep_allowed_by_row, keep_images, step_fault}
use Rattle.re_bridge.proofs.SetTests.{has_entries-sets, sets-has_entries}
use Rattle.re_walks.proofs.FirstEntries.{allowed-kept, kept-allowed}
use Rattle.re_walks.specs.Begun.{is_begun}
use Rattle.re_bridge.specs.Bridges.{entries_for, has_entries, images_for, keep_rows_so_far, passes_by_row, passes_by_set, rest_of, rows_of, sets_of, step_by}

-- ---- by sets
-- the image of each row whose sets have entries is a configuration
abbrev pub KeepsSoFar : Constraint → List (List (List ℕ)) → List SetEntry → Type 0
KeepsSoFar active rows entries = (row : List (List ℕ)) → Contains rows row → HasSetsOf entries row → Has active (map (label_of entries) row)

pub so_far-kept : (active : Constraint) (rows : List (List (List ℕ))) (entries : List SetEntry) → keep_rows_so_far active rows entries ≡ true → KeepsSoFar active rows entries
so_far-kept active rows entries test row held sets =
    all_there (λ row. not (has_entries entries row) || has_config active (map (label_of entries) row)) (λ row. HasSetsOf entries row → Has active (map (label_of entries) row)) rows
    (λ row e all. go row (has_entries entries row) (sets-has_entries entries row all) e) test row held sets
  where
    go : (row : List (List ℕ)) (b : Bool) → b ≡ true → (not b || has_config active (map (label_of entries) row)) ≡ true → Has active (map (label_of entries) row)
    go row true e h = has_config-Has active (map (label_of entries) row) h
    go row false e h = absurd (true≢false (sym e))

pub kept-so_far : (active : Constraint) (rows : List (List (List ℕ))) (entries : List SetEntry) → KeepsSoFar active rows entries → keep_rows_so_far active rows entries ≡ true
kept-so_far active rows entries kept =
    all_held (λ row. not (has_entries entries row) || has_config active (map (label_of entries) row)) (λ row. HasSetsOf entries row → Has active (map (label_of entries) row)) rows
    (λ row means. go row (has_entries entries row) refl means) kept
  where
    go : (row : List (List ℕ)) (b : Bool) → b ≡ has_entries entries row → (HasSetsOf entries row → Has active (map (label_of entries) row)) → (not b || has_config active (map (label_of entries) row)) ≡ true
    go row true e means = Has-has_config active (map (label_of entries) row) (means (has_entries-sets entries row (sym e)))
    go row false e means = refl

-- with a label for each set the entries have all sets
pub all_sets : (sets : List (List ℕ)) (labels : List ℕ) → length labels ≡ length sets → entry_sets (row_entries sets labels) ≡ sets
all_sets [] labels e = refl
all_sets (s ∷ sets) [] e = absurd (omega (arith, e))
all_sets (s ∷ sets) (x ∷ labels) e = ap (λ l. s ∷ l) (all_sets sets labels (omega (arith, e)))

module _ (before next : NamedProblem) (exchanged : are_exchanged before next ≡ true) where
  pub degrees : (next.active.degree ≡ before.passive.degree) × (next.passive.degree ≡ before.active.degree)
  degrees =
      let both = and-true (eqb next.active.degree before.passive.degree) (eqb next.passive.degree before.active.degree) exchanged in
      (eqb-true next.active.degree before.passive.degree both.0, eqb-true next.passive.degree before.active.degree both.1)

  -- labels of all sets that pass make a lower step
  pub passes-step : (labels : List ℕ) → length labels ≡ length (sets_of before) → passes_by_set before next labels ≡ true → step_fault before (step_by before next (by_set (entries_for before labels))) ≡ None
  passes-step labels count test =
      let n = length before.names in
      let entries = entries_for before labels in
      let both = and-true (keep_rows_so_far next.active (rows_of before) entries) (keep_allowed before.active next.passive entries) test in
      let sets : entry_sets entries ≡ sets_of before = all_sets (sets_of before) labels count in
      let step : IsLowerStepBySet (unnamed before) (unnamed next) (rows_of before) entries = record {
        active_degree = degrees.0;
        passive_degree = degrees.1;
        maximal = refl;
        sets = sets;
        active = λ row held. so_far-kept next.active (rows_of before) entries both.0 row held (λ set at. subst (λ (l : List (List ℕ)). Contains l set) (sym sets) (max_sets-row before.passive n row held set at));
        passive = allowed-kept before.active next.passive entries both.1;
      } in
      (lower_clauses before (step_by before next (by_set entries)) refl).1 step

  -- and the labels of a lower step pass
  pub step-passes : (labels : List ℕ) → step_fault before (step_by before next (by_set (entries_for before labels))) ≡ None → passes_by_set before next labels ≡ true
  step-passes labels met =
      let entries = entries_for before labels in
      let step : IsLowerStepBySet (unnamed before) (unnamed next) (rows_of before) entries = (lower_clauses before (step_by before next (by_set entries)) refl).0 met in
      true-and (keep_rows_so_far next.active (rows_of before) entries) (keep_allowed before.active next.passive entries)
      (kept-so_far next.active (rows_of before) entries (λ row held sets. step.active row held)) (kept-allowed before.active next.passive entries step.passive)

  -- ---- by rows
  -- with a label for each place there is an image for each row, and no label is left
  pub rows-whole : (labels : List ℕ) → 0 < next.active.degree → length labels ≡ length (rows_of before) * next.active.degree → length labels / next.active.degree ≡ length (rows_of before)
  rows-whole labels some count =
      ap (λ m. m / next.active.degree) (count ∙ (let z : length (rows_of before) * next.active.degree ≡ length (rows_of before) * next.active.degree + 0 = omega arith in z))
      ∙ div-mul-add (length (rows_of before)) next.active.degree 0 some

  pub images-count : (labels : List ℕ) → 0 < next.active.degree → length labels ≡ length (rows_of before) * next.active.degree → length (images_for next.active.degree labels) ≡ length (rows_of before)
  images-count labels some count = length-map' _ (count_from 0 (length labels / next.active.degree)) ∙ length-count_from 0 (length labels / next.active.degree) ∙ rows-whole labels some count

  rest-none : (labels : List ℕ) → 0 < next.active.degree → length labels ≡ length (rows_of before) * next.active.degree → eqb (length (rest_of next.active.degree labels)) 0 ≡ true
  rest-none labels some count =
      let all : length labels / next.active.degree * next.active.degree ≡ length labels = ap (λ m. m * next.active.degree) (rows-whole labels some count) ∙ sym count in
      let e : length (rest_of next.active.degree labels) ≡ 0 = ap (λ m. length (drop m labels)) all ∙ length-drop (length labels) labels ∙ (let z : length labels - length labels ≡ 0 = omega arith in z) in
      ap (λ m. eqb m 0) e

  -- the test of labels for all places
  pub whole-test : (labels : List ℕ) → 0 < next.active.degree → length labels ≡ length (rows_of before) * next.active.degree
      → passes_by_row before next labels ≡ (keep_images next.active (images_for next.active.degree labels)
      && keep_allowed_by_row (length before.names) before.active next.passive (rows_of before) (images_for next.active.degree labels))
  whole-test labels some count =
      ap (λ t. cond t (keep_images next.active (images_for next.active.degree labels)
      && keep_allowed_by_row (length before.names) before.active next.passive (rows_of before) (images_for next.active.degree labels)) (is_begun next.active (length next.names) (rest_of next.active.degree labels)))
      (rest-none labels some count)

  -- labels of all places that pass make a lower step
  pub passes-row_step : (labels : List ℕ) → 0 < next.active.degree → length labels ≡ length (rows_of before) * next.active.degree → passes_by_row before next labels ≡ true
      → step_fault before (step_by before next (by_row (images_for next.active.degree labels))) ≡ None
  passes-row_step labels some count test =
      let n = length before.names in
      let images = images_for next.active.degree labels in
      let both = and-true (keep_images next.active images) (keep_allowed_by_row n before.active next.passive (rows_of before) images) (sym (whole-test labels some count) ∙ test) in
      let step : IsLowerStepByRow (unnamed before) (unnamed next) (rows_of before) images = record {
        active_degree = degrees.0;
        passive_degree = degrees.1;
        maximal = refl;
        count = images-count labels some count;
        active = all_there (has_config next.active) (Has next.active) images (has_config-Has next.active) both.0;
        passive = (by_row-tells n before.active next.passive (rows_of before) images).0 both.1;
      } in
      (lower_clauses before (step_by before next (by_row images)) refl).1 step

  -- and the labels of a lower step by rows pass
  pub row_step-passes : (labels : List ℕ) → 0 < next.active.degree → length labels ≡ length (rows_of before) * next.active.degree
      → step_fault before (step_by before next (by_row (images_for next.active.degree labels))) ≡ None → passes_by_row before next labels ≡ true
  row_step-passes labels some count met =
      let n = length before.names in
      let images = images_for next.active.degree labels in
      let step : IsLowerStepByRow (unnamed before) (unnamed next) (rows_of before) images = (lower_clauses before (step_by before next (by_row images)) refl).0 met in
      whole-test labels some count ∙ true-and (keep_images next.active images) (keep_allowed_by_row n before.active next.passive (rows_of before) images)
      (all_held (has_config next.active) (Has next.active) images (Has-has_config next.active) step.active)
      ((by_row-tells n before.active next.passive (rows_of before) images).1 step.passive)
