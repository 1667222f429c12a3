-- A lower step by sets is one by rows, with the images of its rows by its entries.
use Rattle.std.proofs.Common.{◌≡◌, ℕ, zero, suc, ◌<◌, Bool, true, false, not, eqb, leb, List, [], ◌∷◌, length, map, None, refl, sym, ap, ◌∙◌, subst, arith}
use Rattle.std.proofs.lemmas.List.{get_or-map}
use Rattle.std.specs.Prelude.{Contains, ◌&&◌, if◌then◌else◌, nat_lt, slice_index_or, option_map, ◌==◌}
use Rattle.std.specs.List.{AllByRecursion, AllZip, list_all}
use Rattle.re_labels.specs.Rows.{placed, set_at}
use Rattle.re_labels.specs.declared.TheConstants.{MAX_ROWS}
use Rattle.re_problem.specs.ItemSteps.{is_nil}
use Rattle.re_labels.proofs.Membership.{Contains-map_cases, In-Contains, In-map_from, all-In, all-In_from, length-map'}
use Rattle.re_labels.proofs.LabelPlaces.{place_of-below}
use Rattle.re_labels.proofs.Tests.{and-true, or-left, or-right, true-and}
use Rattle.re_labels.specs.Lists.{IsRising, place_of}
use Rattle.re_problem.proofs.StepLaws.{map-map}
use Rattle.re_problem.specs.NamedProblems.{IsNamedProblem, NamedProblem, unnamed}
use Rattle.re_problem.specs.ProblemTexts.{last_or}
use Rattle.re_problem.specs.Problems.{Problem}
use Rattle.re_problem.specs.Steps.{AreBeside, BecomesByRow, IsLowerStepByRow, IsLowerStepBySet, LowerMap, SetEntry, entry_sets, label_at, label_of}
use Rattle.re_problem.specs.Steps.LowerMap.{by_row, by_set}
use Rattle.re_labels.proofs.MaxSets.{allowed_law, max_sets-row, rising-max_sets}
use Rattle.re_labels.specs.Constraints.{Has}
use Rattle.re_labels.specs.GoodRows.{allowed, max_sets}
use Rattle.re_check.proofs.RowSets.{IsLowerSet, place_of-there, row_sets_law}
use Rattle.re_check.specs.StepClauses.{HasRowSets}
use Rattle.re_cert.specs.Bounds.{Bound, BoundStep, entry_fits, image_fits, is_bound, is_by_row, is_fixed, is_label, is_lower, kind_fits, map_fits, next_problems, one_form, pair_fits, renaming_fits, row_fits, step_fits, steps_fit}
use Rattle.re_cert.specs.declared.certificate.Kind.{Kind}
use Rattle.re_cert.specs.declared.certificate.TheConstants.{MAX_STEPS}
use Rattle.re_check.proofs.StepMeaning.{lower_clauses}
use Rattle.re_check.specs.Clauses.{step_fault}
use Rattle.re_check.specs.Verdicts.{fault_at, fault_or, steps_fault}
use Rattle.re_check.proofs.Meaning.{both_met}
use Rattle.re_shaping.specs.StepLaws.{ByRowsLaw, RowFormLaw}
use Rattle.re_chains.specs.Chains.{IsSound}
use Rattle.re_shaping.specs.RowForms.{HasSets, HasStepSets, by_rows, map_by_rows, row_form, step_by_rows}

-- ---- what stands beside each other in a list and its images
beside-images : {X Y : Type 0} (f : X → Y) (xs : List X) (x : X) (y : Y) → AreBeside xs (map f xs) x y → y ≡ f x
beside-images f xs x y (k, l, m, s, t) = sym t ∙ get_or-map f xs k x y l ∙ ap f s

module _ (problem next : Problem) (rows : List (List (List ℕ))) (entries : List SetEntry) (lower : IsLowerStepBySet problem next rows entries) where
  -- a set becomes the label of its entry
  becomes-label : (set : List ℕ) (label : ℕ) → BecomesByRow rows (row_form rows entries) set label → label ≡ label_of entries set
  becomes-label set label (row, image, at, beside) =
      let same : image ≡ map (label_of entries) row = beside-images (map (label_of entries)) rows row image at in
      beside-images (label_of entries) row set label (subst (λ labels. AreBeside row labels set label) same beside)

  become-labels : (sets : List (List ℕ)) (labels : List ℕ) → AllZip (BecomesByRow rows (row_form rows entries)) sets labels → map (label_of entries) sets ≡ labels
  become-labels [] [] h = refl
  become-labels [] (y ∷ labels) h = absurd h
  become-labels (set ∷ sets) [] h = absurd h
  become-labels (set ∷ sets) (y ∷ labels) h = (λ i. sym (becomes-label set y h.0) i ∷ become-labels sets labels h.1 i)

  rising : IsRising IsLowerSet (entry_sets entries)
  rising = subst (IsRising IsLowerSet) (sym lower.sets) (rising-max_sets problem.passive problem.labels)

  -- the label of the set at a place is that at the place
  label-there : (k : ℕ) → k < length (entry_sets entries) → label_of entries (set_at (entry_sets entries) k) ≡ label_at entries k
  label-there k l = ap (label_at entries) (place_of-there (entry_sets entries) k (set_at (entry_sets entries) k) rising l refl)

  labels-there : (places : List ℕ) → AllByRecursion (λ k. k < length (entry_sets entries)) places → map (label_of entries) (placed (entry_sets entries) places) ≡ map (label_at entries) places
  labels-there [] below = refl
  labels-there (k ∷ places) below = (λ i. label-there k below.0 i ∷ labels-there places below.1 i)

  by-row-passive : (places labels : List ℕ) → Contains (allowed problem.active (max_sets problem.passive problem.labels) problem.active.degree) places
      → AllZip (BecomesByRow rows (row_form rows entries)) (placed (max_sets problem.passive problem.labels) places) labels → Has next.passive labels
  by-row-passive places labels held become =
      let listed : Contains (allowed problem.active (entry_sets entries) problem.active.degree) places = subst (λ s. Contains (allowed problem.active s problem.active.degree) places) (sym lower.sets) held in
      let fits = (((allowed_law problem.active (entry_sets entries) problem.active.degree).1 places).0 listed).0 in
      let same : map (label_of entries) (placed (entry_sets entries) places) ≡ labels = ap (λ s. map (label_of entries) (placed s places)) lower.sets ∙ become-labels (placed (max_sets problem.passive problem.labels) places) labels become in
      subst (Has next.passive) (sym (labels-there places fits.below) ∙ same) (lower.passive places listed)

  by-row-active : (image : List ℕ) → Contains (row_form rows entries) image → Has next.active image
  by-row-active image held =
      let (row, at, same) = Contains-map_cases (map (label_of entries)) rows image held in
      subst (Has next.active) same (lower.active row at)

  pub row-form : IsLowerStepByRow problem next rows (row_form rows entries)
  row-form = record {
    active_degree = lower.active_degree;
    passive_degree = lower.passive_degree;
    maximal = lower.maximal;
    count = length-map' (map (label_of entries)) rows;
    active = by-row-active;
    passive = by-row-passive;
  }

  -- the sets of the rows have entries
  pub set-held : (row : List (List ℕ)) → Contains rows row → (set : List ℕ) → Contains row set → Contains (entry_sets entries) set
  set-held row at set there =
      subst (λ sets. Contains sets set) (sym lower.sets) (max_sets-row problem.passive problem.labels row (subst (λ rows. Contains rows row) lower.maximal at) set there)

  pub has-row_sets : HasRowSets rows entries
  has-row_sets = subst (λ rows. HasRowSets rows entries) (sym lower.maximal) ((row_sets_law problem.passive problem.labels entries).1 lower.sets)

pub row_form_holds : RowFormLaw
row_form_holds problem next rows entries lower = row-form problem next rows entries lower

-- ---- one step
abbrev the_step : Bool → NamedProblem → List (List (List ℕ)) → LowerMap → BoundStep
the_step lower next rows map = record { lower = lower; next = next; rows = rows; map = map }

sound-of : (before next : NamedProblem) (rows : List (List (List ℕ))) (lower : Bool) (m : LowerMap) → step_fault before (the_step lower next rows m) ≡ None → step_fault before (step_by_rows (the_step lower next rows m)) ≡ None
sound-of before next rows false m none = none
sound-of before next rows true (by_row images) none = none
sound-of before next rows true (by_set entries) none =
    (lower_clauses before (the_step true next rows (by_row (row_form rows entries))) refl).1
    (row-form (unnamed before) (unnamed next) rows entries ((lower_clauses before (the_step true next rows (by_set entries)) refl).0 none))

-- a step that meets its clauses meets them by rows
pub step-sound : (before : NamedProblem) (s : BoundStep) → step_fault before s ≡ None → step_fault before (step_by_rows s) ≡ None
step-sound before s none = sound-of before s.next s.rows s.lower s.map none

sets-of : (before next : NamedProblem) (rows : List (List (List ℕ))) (lower : Bool) (m : LowerMap) → step_fault before (the_step lower next rows m) ≡ None → lower ≡ true → HasSets rows m
sets-of before next rows false m none low = cc
sets-of before next rows true (by_row images) none low = tt
sets-of before next rows true (by_set entries) none low =
    has-row_sets (unnamed before) (unnamed next) rows entries ((lower_clauses before (the_step true next rows (by_set entries)) refl).0 none)

-- and has the sets of its rows
pub step-sets : (before : NamedProblem) (s : BoundStep) → step_fault before s ≡ None → HasStepSets s
step-sets before s none = sets-of before s.next s.rows s.lower s.map none

-- the label at a place fits
label-fits : (before next : NamedProblem) (entries : List SetEntry) (k : ℕ) → k < length entries → list_all (entry_fits before next) entries ≡ true → is_label next (label_at entries k) ≡ true
label-fits before next [] k l fit = absurd (omega arith)
label-fits before next (entry ∷ entries) zero l fit =
    let two = and-true (entry_fits before next entry) (list_all (entry_fits before next) entries) fit in
    (and-true (list_all (is_label before) entry.set) (is_label next entry.label) two.0).1
label-fits before next (entry ∷ entries) (suc k) l fit =
    label-fits before next entries k (omega arith) (and-true (entry_fits before next entry) (list_all (entry_fits before next) entries) fit).1

images-fit : (before next : NamedProblem) (rows : List (List (List ℕ))) (entries : List SetEntry) → IsLowerStepBySet (unnamed before) (unnamed next) rows entries
    → list_all (row_fits before) rows ≡ true → list_all (entry_fits before next) entries ≡ true → list_all (image_fits before next) (row_form rows entries) ≡ true
images-fit before next rows entries lower fit entries_fit = all-In_from (image_fits before next) (row_form rows entries) (λ image i.
    let (row, j, e) = In-map_from (map (label_of entries)) image rows i in
    let two = and-true (eqb (length row) before.passive.degree) (list_all (list_all (is_label before)) row) (all-In (row_fits before) rows fit row j) in
    let long : length image ≡ length row = ap length e ∙ length-map' (label_of entries) row in
    true-and (eqb (length image) before.passive.degree) (list_all (is_label next) image)
    (ap (λ n. eqb n before.passive.degree) long ∙ two.0)
    (subst (λ image. list_all (is_label next) image ≡ true) (sym e) (labels row (In-Contains row rows j))))
  where
    labels : (row : List (List ℕ)) → Contains rows row → list_all (is_label next) (map (label_of entries) row) ≡ true
    labels row at = all-In_from (is_label next) (map (label_of entries) row) (λ label i.
        let (set, j, e) = In-map_from (label_of entries) label row i in
        let held = set-held (unnamed before) (unnamed next) rows entries lower row at set (In-Contains set row j) in
        let l : place_of (entry_sets entries) set < length (entry_sets entries) = place_of-below (entry_sets entries) set held in
        let m : place_of (entry_sets entries) set < length entries = omega (arith, length-map' (λ (entry : SetEntry). entry.set) entries) in
        subst (λ label. is_label next label ≡ true) (sym e) (label-fits before next entries (place_of (entry_sets entries) set) m entries_fit))

fits-of : (kind : Kind) (before next : NamedProblem) (rows : List (List (List ℕ))) (lower : Bool) (m : LowerMap) → step_fits kind before (the_step lower next rows m) ≡ true → step_fault before (the_step lower next rows m) ≡ None
    → step_fits kind before (step_by_rows (the_step lower next rows m)) ≡ true
fits-of kind before next rows false m fits none = fits
fits-of kind before next rows true (by_row images) fits none = fits
fits-of kind before next rows true (by_set entries) fits none =
    let (front, entries_fit) = and-true (is_lower kind && leb (length rows) MAX_ROWS && list_all (row_fits before) rows) (list_all (entry_fits before next) entries) fits in
    let (few, rows_fit) = and-true (is_lower kind && leb (length rows) MAX_ROWS) (list_all (row_fits before) rows) front in
    let (kinds, short) = and-true (is_lower kind) (leb (length rows) MAX_ROWS) few in
    let lower = (lower_clauses before (the_step true next rows (by_set entries)) refl).0 none in
    true-and (is_lower kind && leb (length rows) MAX_ROWS && list_all (row_fits before) rows) (leb (length (row_form rows entries)) MAX_ROWS && list_all (image_fits before next) (row_form rows entries)) front
    (true-and (leb (length (row_form rows entries)) MAX_ROWS) (list_all (image_fits before next) (row_form rows entries))
    (ap (λ n. leb n MAX_ROWS) (length-map' (map (label_of entries)) rows) ∙ short) (images-fit before next rows entries lower rows_fit entries_fit))

-- a step that fits and meets its clauses fits by rows
pub step-fits : (kind : Kind) (before : NamedProblem) (s : BoundStep) → step_fits kind before s ≡ true → step_fault before s ≡ None → step_fits kind before (step_by_rows s) ≡ true
step-fits kind before s fits none = fits-of kind before s.next s.rows s.lower s.map fits none

form-of : (kind : Kind) (rows : List (List (List ℕ))) (lower : Bool) (m : LowerMap) → (if lower then is_lower kind else not (is_lower kind) && not (is_by_row m)) ≡ true → is_by_row (if lower then map_by_rows rows m else m) ≡ is_lower kind
form-of kind rows true (by_set entries) fits = sym fits
form-of kind rows true (by_row images) fits = sym fits
form-of kind rows false m fits =
    let two = and-true (not (is_lower kind)) (not (is_by_row m)) fits in
    neither (is_by_row m) (is_lower kind) two.1 two.0
  where
    neither : (a b : Bool) → not a ≡ true → not b ≡ true → a ≡ b
    neither false false h k = refl
    neither false true h k = cc
    neither true b h k = cc

-- the map of a step that fits is by rows then, in a bound with lower steps
pub step-form : (kind : Kind) (before : NamedProblem) (s : BoundStep) → step_fits kind before s ≡ true → is_by_row (step_by_rows s).map ≡ is_lower kind
step-form kind before s fits =
    let (front, entries_fit) = and-true (kind_fits kind s && leb (length s.rows) MAX_ROWS && list_all (row_fits before) s.rows) (map_fits before s.next s.map) fits in
    let (few, rows_fit) = and-true (kind_fits kind s && leb (length s.rows) MAX_ROWS) (list_all (row_fits before) s.rows) front in
    form-of kind s.rows s.lower s.map (and-true (kind_fits kind s) (leb (length s.rows) MAX_ROWS) few).0

-- ---- all steps
pub steps-fit : (kind : Kind) (number : ℕ) (before : NamedProblem) (steps : List BoundStep) → steps_fit kind before steps ≡ true → steps_fault before number steps ≡ None → steps_fit kind before (map step_by_rows steps) ≡ true
steps-fit kind number before [] fit none = refl
steps-fit kind number before (s ∷ steps) fit none =
    let two = and-true (step_fits kind before s) (steps_fit kind s.next steps) fit in
    let sound = both_met number before s steps none in
    true-and (step_fits kind before (step_by_rows s)) (steps_fit kind s.next (map step_by_rows steps)) (step-fits kind before s two.0 sound.0) (steps-fit kind (suc number) s.next steps two.1 sound.1)

pub steps-sound : (number : ℕ) (before : NamedProblem) (steps : List BoundStep) → steps_fault before number steps ≡ None → steps_fault before number (map step_by_rows steps) ≡ None
steps-sound number before [] none = refl
steps-sound number before (s ∷ steps) none =
    let sound = both_met number before s steps none in
    ap (λ o. fault_or (option_map (fault_at number) o) (steps_fault s.next (suc number) (map step_by_rows steps))) (step-sound before s sound.0) ∙ steps-sound (suc number) s.next steps sound.1

pub steps-sets : (number : ℕ) (before : NamedProblem) (steps : List BoundStep) → steps_fault before number steps ≡ None → AllByRecursion HasStepSets steps
steps-sets number before [] none = tt
steps-sets number before (s ∷ steps) none =
    let sound = both_met number before s steps none in
    (step-sets before s sound.0, steps-sets (suc number) s.next steps sound.1)

pub next-same : (steps : List BoundStep) → next_problems (map step_by_rows steps) ≡ next_problems steps
next-same steps = map-map (λ (s : BoundStep). s.next) step_by_rows steps

all-by_row : (kind : Kind) (before : NamedProblem) (steps : List BoundStep) → is_lower kind ≡ true → steps_fit kind before steps ≡ true → list_all (λ (s : BoundStep). is_by_row s.map) (map step_by_rows steps) ≡ true
all-by_row kind before [] low fit = refl
all-by_row kind before (s ∷ steps) low fit =
    let two = and-true (step_fits kind before s) (steps_fit kind s.next steps) fit in
    true-and (is_by_row (step_by_rows s).map) (list_all (λ (s : BoundStep). is_by_row s.map) (map step_by_rows steps)) (step-form kind before s two.0 ∙ low) (all-by_row kind s.next steps low two.1)

none-by_row : (kind : Kind) (before : NamedProblem) (steps : List BoundStep) → is_lower kind ≡ false → steps_fit kind before steps ≡ true → list_all (λ (s : BoundStep). not (is_by_row s.map)) (map step_by_rows steps) ≡ true
none-by_row kind before [] low fit = refl
none-by_row kind before (s ∷ steps) low fit =
    let two = and-true (step_fits kind before s) (steps_fit kind s.next steps) fit in
    true-and (not (is_by_row (step_by_rows s).map)) (list_all (λ (s : BoundStep). not (is_by_row s.map)) (map step_by_rows steps)) (ap not (step-form kind before s two.0 ∙ low)) (none-by_row kind s.next steps low two.1)

one-form : (kind : Kind) (before : NamedProblem) (steps : List BoundStep) → steps_fit kind before steps ≡ true → one_form (map step_by_rows steps) ≡ true
one-form kind before steps fit = go (is_lower kind) refl
  where
    go : (b : Bool) → is_lower kind ≡ b → one_form (map step_by_rows steps) ≡ true
    go true low = or-left (list_all (λ (s : BoundStep). is_by_row s.map) (map step_by_rows steps)) (list_all (λ (s : BoundStep). not (is_by_row s.map)) (map step_by_rows steps)) (all-by_row kind before steps low fit)
    go false low = or-right (list_all (λ (s : BoundStep). is_by_row s.map) (map step_by_rows steps)) (list_all (λ (s : BoundStep). not (is_by_row s.map)) (map step_by_rows steps)) (none-by_row kind before steps low fit)

-- the way back is the same
same-back : (bound : Bound) → renaming_fits (by_rows bound) ≡ renaming_fits bound
same-back bound = (λ i. if is_fixed bound.kind
    then nat_lt bound.back (length-map' step_by_rows bound.steps i) && list_all (pair_fits (last_or bound.first (next-same bound.steps i)) (slice_index_or (bound.first ∷ next-same bound.steps i) bound.back bound.first)) bound.renaming
    else bound.back == 0 && is_nil bound.renaming)

pub bound-by_rows : (bound : Bound) → is_bound bound ≡ true → IsSound bound → is_bound (by_rows bound) ≡ true
bound-by_rows bound is sound =
    let (front, back) = and-true (leb (length bound.steps) MAX_STEPS && steps_fit bound.kind bound.first bound.steps && one_form bound.steps) (renaming_fits bound) is in
    let (fitting, form) = and-true (leb (length bound.steps) MAX_STEPS && steps_fit bound.kind bound.first bound.steps) (one_form bound.steps) front in
    let (few, fit) = and-true (leb (length bound.steps) MAX_STEPS) (steps_fit bound.kind bound.first bound.steps) fitting in
    let rows : List BoundStep = map step_by_rows bound.steps in
    true-and (leb (length rows) MAX_STEPS && steps_fit bound.kind bound.first rows && one_form rows) (renaming_fits (by_rows bound))
    (true-and (leb (length rows) MAX_STEPS && steps_fit bound.kind bound.first rows) (one_form rows)
    (true-and (leb (length rows) MAX_STEPS) (steps_fit bound.kind bound.first rows) (ap (λ n. leb n MAX_STEPS) (length-map' step_by_rows bound.steps) ∙ few) (steps-fit bound.kind 1 bound.first bound.steps fit sound))
    (one-form bound.kind bound.first bound.steps fit))
    (same-back bound ∙ back)

pub by_rows_holds : ByRowsLaw
by_rows_holds bound is = record {
  bound = bound-by_rows bound is.bound is.sound;
  problems = record { first = is.problems.first; next = subst (AllByRecursion IsNamedProblem) (sym (next-same bound.steps)) is.problems.next };
  sound = steps-sound 1 bound.first bound.steps is.sound;
}

-- the parts that the program holds are those of the bound by rows
pub held-by_rows : (bound : Bound) (kind : Kind) (back : ℕ) (first : NamedProblem) (steps : List BoundStep) (renaming : List (ℕ × ℕ)) → kind ≡ bound.kind → back ≡ bound.back → first ≡ bound.first
    → steps ≡ map step_by_rows bound.steps → renaming ≡ bound.renaming → record { kind = kind; back = back; first = first; steps = steps; renaming = renaming } ≡ by_rows bound
held-by_rows bound kind back first steps renaming e f g h k = (λ i. record { kind = e i; back = f i; first = g i; steps = h i; renaming = k i })
