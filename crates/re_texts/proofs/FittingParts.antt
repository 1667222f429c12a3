-- What fits in a bound, of the labels that have names.
use Rattle.std.proofs.Common.{◌≡◌, ℕ, ◌<◌, ◌≤◌, refl, false, Bool, true, not, cond, ◌||◌, eqb, leb, ltb, subst, List, [], ◌∷◌, length, ◌&&◌, sym, ap, ◌∙◌, arith}
use Rattle.std.specs.List.{AllByRecursion, list_all}
use Rattle.std.proofs.lemmas.Bool.{false≢true, leb-true}
use Rattle.std.proofs.lemmas.Bool.Decides.{nat_tests}
use Rattle.re_labels.specs.Rows.{IsRow}
use Rattle.re_labels.proofs.Membership.{AllByRecursion-from_In, AllByRecursion-weaker, all-In, any-In}
use Rattle.re_labels.proofs.Tests.{and-true, eqb-true, not-true}
use Rattle.re_labels.specs.Sets.{IsLabelSet}
use Rattle.re_problem.specs.NamedProblems.{NamedProblem}
use Rattle.re_problem.specs.Steps.LowerMap.{by_row, by_set}
use Rattle.re_problem.specs.Steps.{LowerMap, SetEntry}
use Rattle.re_problem.specs.ItemSteps.{is_nil}
use Rattle.re_cert.specs.Bounds.{Bound, BoundStep, entry_fits, has_row_maps, image_fits, is_bound, is_by_row, is_fixed, is_label, is_lower, kind_fits, last_problem, map_fits, one_form, pair_fits, problem_at, renaming_fits, row_fits, step_fits, steps_fit}
use Rattle.re_cert.specs.declared.certificate.Kind.{Kind}
use Rattle.re_texts.specs.PrintedCertificates.{FitBehind, IsAnyRow, IsLabelled}
use Rattle.re_labels.specs.declared.TheConstants.{MAX_LABELS}
use Rattle.re_labels.specs.declared.TheConstants.{MAX_ROWS}
use Rattle.re_cert.specs.declared.certificate.TheConstants.{MAX_STEPS}

-- what a test of each tells
pub each_of : {X : Type 0} (test : X → Bool) (P : X → Type 0) → ((x : X) → test x ≡ true → P x) → (xs : List X) → list_all test xs ≡ true → AllByRecursion P xs
each_of test P tells [] all = tt
each_of test P tells (x ∷ xs) all = let two = and-true (test x) (list_all test xs) all in (tells x two.0, each_of test P tells xs two.1)

pub below_of : (n x : ℕ) → ltb x n ≡ true → x < n
below_of n x test = grind (arith, nat_tests)

pub labels_below : (n : ℕ) (set : List ℕ) → list_all (λ x. ltb x n) set ≡ true → AllByRecursion (λ x. x < n) set
labels_below n set all = each_of (λ x. ltb x n) (λ x. x < n) (below_of n) set all

-- ---- rows
row_sets : (before : NamedProblem) (row : List (List ℕ)) → row_fits before row ≡ true → (length row ≡ before.passive.degree) × AllByRecursion (AllByRecursion (λ x. x < length before.names)) row
row_sets before row fits =
    let two = and-true (eqb (length row) before.passive.degree) (list_all (list_all (is_label before)) row) fits in
    (eqb-true (length row) before.passive.degree two.0, each_of (list_all (is_label before)) (AllByRecursion (λ x. x < length before.names)) (labels_below (length before.names)) row two.1)

pub rows_named : (before : NamedProblem) (rows : List (List (List ℕ))) → list_all (row_fits before) rows ≡ true → AllByRecursion (AllByRecursion (AllByRecursion (λ x. x < length before.names))) rows
rows_named before rows all = each_of (row_fits before) (AllByRecursion (AllByRecursion (λ x. x < length before.names))) (λ row fits. (row_sets before row fits).1) rows all

small_sets : (n : ℕ) (row : List (List ℕ)) → AllByRecursion (λ s. IsLabelSet MAX_LABELS s × (0 < length s)) row → AllByRecursion (AllByRecursion (λ x. x < n)) row → AllByRecursion (λ s. IsLabelSet n s × (0 < length s)) row
small_sets n [] are below = tt
small_sets n (s ∷ row) are below = (((are.0.0.0, below.0), are.0.1), small_sets n row are.1 below.1)

pub rows_held : (before : NamedProblem) (rows : List (List (List ℕ))) → AllByRecursion IsAnyRow rows → list_all (row_fits before) rows ≡ true
    → AllByRecursion (IsRow before.passive.degree (length before.names)) rows
rows_held before [] are all = tt
rows_held before (row ∷ rows) are all =
    let two = and-true (row_fits before row) (list_all (row_fits before) rows) all in
    let fits = row_sets before row two.0 in
    (record { count = fits.0; sets = small_sets (length before.names) row are.0.sets fits.1; ascends = are.0.ascends }, rows_held before rows are.1 two.1)

-- ---- entries
-- an entry from a set of labels of the problem before to a label of the next one
abbrev pub HeldEntry : NamedProblem → NamedProblem → SetEntry → Type 0
HeldEntry before next entry = IsLabelSet (length before.names) entry.set × (entry.label < length next.names)

entry_parts : (before next : NamedProblem) (entry : SetEntry) → entry_fits before next entry ≡ true → AllByRecursion (λ x. x < length before.names) entry.set × (entry.label < length next.names)
entry_parts before next entry fits =
    let two = and-true (list_all (is_label before) entry.set) (is_label next entry.label) fits in
    (labels_below (length before.names) entry.set two.0, below_of (length next.names) entry.label two.1)

pub entries_held : (before next : NamedProblem) (entries : List SetEntry) → AllByRecursion IsLabelled entries → list_all (entry_fits before next) entries ≡ true → AllByRecursion (HeldEntry before next) entries
entries_held before next [] are all = tt
entries_held before next (entry ∷ entries) are all =
    let two = and-true (entry_fits before next entry) (list_all (entry_fits before next) entries) all in
    let parts = entry_parts before next entry two.0 in
    (((are.0.0, parts.0), parts.1), entries_held before next entries are.1 two.1)

pub sets_named : (before next : NamedProblem) (entries : List SetEntry) → list_all (entry_fits before next) entries ≡ true
    → AllByRecursion (λ (entry : SetEntry). AllByRecursion (λ x. x < length before.names) entry.set) entries
sets_named before next entries all =
    each_of (entry_fits before next) (λ (entry : SetEntry). AllByRecursion (λ x. x < length before.names) entry.set) (λ entry fits. (entry_parts before next entry fits).0) entries all

pub labels_named : (before next : NamedProblem) (entries : List SetEntry) → list_all (entry_fits before next) entries ≡ true → AllByRecursion (λ (entry : SetEntry). entry.label < length next.names) entries
labels_named before next entries all =
    each_of (entry_fits before next) (λ (entry : SetEntry). entry.label < length next.names) (λ entry fits. (entry_parts before next entry fits).1) entries all

-- ---- pairs
pair_parts : (last target : NamedProblem) (pair : ℕ × ℕ) → pair_fits last target pair ≡ true → (pair.0 < length last.names) × (pair.1 < length target.names)
pair_parts last target pair fits =
    let two = and-true (is_label last pair.0) (is_label target pair.1) fits in
    (below_of (length last.names) pair.0 two.0, below_of (length target.names) pair.1 two.1)

pub pairs_held : (last target : NamedProblem) (pairs : List (ℕ × ℕ)) → list_all (pair_fits last target) pairs ≡ true
    → AllByRecursion (λ (pair : ℕ × ℕ). (pair.0 < length last.names) × (pair.1 < length target.names)) pairs
pairs_held last target pairs all = each_of (pair_fits last target) (λ (pair : ℕ × ℕ). (pair.0 < length last.names) × (pair.1 < length target.names)) (pair_parts last target) pairs all

-- ---- a step, and the pairs of a bound
pub step_parts : (kind : Kind) (before : NamedProblem) (step : BoundStep) → step_fits kind before step ≡ true
    → (kind_fits kind step ≡ true) × (length step.rows ≤ MAX_ROWS) × (list_all (row_fits before) step.rows ≡ true) × (map_fits before step.next step.map ≡ true)
step_parts kind before step fits =
    let of_kind = kind_fits kind step in
    let few = leb (length step.rows) MAX_ROWS in
    let rows = list_all (row_fits before) step.rows in
    let three = and-true (of_kind && few && rows) (map_fits before step.next step.map) fits in
    let two = and-true (of_kind && few) rows three.0 in
    let one = and-true of_kind few two.0 in
    (one.0, leb-true (length step.rows) MAX_ROWS one.1, two.1, three.1)

-- the rows, sets and labels of a step that fits have names
pub rows_ready : (before : NamedProblem) (step : BoundStep) (names : List (List ℕ)) (rows : List (List (List ℕ))) → FitBehind before step → names ≡ before.names → rows ≡ step.rows
    → AllByRecursion (AllByRecursion (AllByRecursion (λ x. x < length names))) rows
rows_ready before step names rows fits named same =
    subst (λ l. AllByRecursion (AllByRecursion (AllByRecursion (λ x. x < length names))) l) (sym same)
    (subst (λ l. AllByRecursion (AllByRecursion (AllByRecursion (λ x. x < length l))) step.rows) (sym named) (rows_named before step.rows (step_parts fits.0 before step fits.1).2))

pub sets_ready : (before next : NamedProblem) (held : List SetEntry) (names : List (List ℕ)) (entries : List SetEntry) → list_all (entry_fits before next) held ≡ true → names ≡ before.names → entries ≡ held
    → AllByRecursion (λ (entry : SetEntry). AllByRecursion (λ x. x < length names) entry.set) entries
sets_ready before next held names entries fits named same =
    subst (λ l. AllByRecursion (λ (entry : SetEntry). AllByRecursion (λ x. x < length names) entry.set) l) (sym same)
    (subst (λ l. AllByRecursion (λ (entry : SetEntry). AllByRecursion (λ x. x < length l) entry.set) held) (sym named) (sets_named before next held fits))

pub labels_ready : (before next : NamedProblem) (held : List SetEntry) (names : List (List ℕ)) (entries : List SetEntry) → list_all (entry_fits before next) held ≡ true → names ≡ next.names → entries ≡ held
    → AllByRecursion (λ (entry : SetEntry). entry.label < length names) entries
labels_ready before next held names entries fits named same =
    subst (λ l. AllByRecursion (λ (entry : SetEntry). entry.label < length names) l) (sym same)
    (subst (λ l. AllByRecursion (λ (entry : SetEntry). entry.label < length l) held) (sym named) (labels_named before next held fits))

-- ---- images
-- an image of as many labels of the next problem as the passive degree before
abbrev pub HeldImage : NamedProblem → NamedProblem → List ℕ → Type 0
HeldImage before next image = (length image ≡ before.passive.degree) × AllByRecursion (λ x. x < length next.names) image

image_parts : (before next : NamedProblem) (image : List ℕ) → image_fits before next image ≡ true → HeldImage before next image
image_parts before next image fits =
    let two = and-true (eqb (length image) before.passive.degree) (list_all (is_label next) image) fits in
    (eqb-true (length image) before.passive.degree two.0, labels_below (length next.names) image two.1)

pub images_held : (before next : NamedProblem) (images : List (List ℕ)) → map_fits before next (by_row images) ≡ true → (length images ≤ MAX_ROWS) × AllByRecursion (HeldImage before next) images
images_held before next images fits =
    let two = and-true (leb (length images) MAX_ROWS) (list_all (image_fits before next) images) fits in
    (leb-true (length images) MAX_ROWS two.0, each_of (image_fits before next) (HeldImage before next) (image_parts before next) images two.1)

pub images_ready : (before next : NamedProblem) (held : List (List ℕ)) (names : List (List ℕ)) (images : List (List ℕ)) → map_fits before next (by_row held) ≡ true → names ≡ next.names → images ≡ held
    → AllByRecursion (AllByRecursion (λ x. x < length names)) images
images_ready before next held names images fits named same =
    subst (λ l. AllByRecursion (AllByRecursion (λ x. x < length names)) l) (sym same)
    (subst (λ l. AllByRecursion (AllByRecursion (λ x. x < length l)) held) (sym named) (AllByRecursion-weaker (HeldImage before next) (AllByRecursion (λ x. x < length next.names)) (λ image h. h.1) held (images_held before next held fits).1))

-- ---- the form of the maps
none_any : (steps : List BoundStep) → list_all (λ (s : BoundStep). not (is_by_row s.map)) steps ≡ true → has_row_maps steps ≡ false
none_any [] all = refl
none_any (s ∷ steps) all =
    let two = and-true (not (is_by_row s.map)) (list_all (λ (s : BoundStep). not (is_by_row s.map)) steps) all in
    λ i. not-true (is_by_row s.map) two.0 i || none_any steps two.1 i

formed : (steps : List BoundStep) → one_form steps ≡ true → AllByRecursion (λ (s : BoundStep). is_by_row s.map ≡ has_row_maps steps) steps
formed steps form = go (list_all (λ (s : BoundStep). is_by_row s.map) steps) refl form
  where
    go : (t : Bool) → list_all (λ (s : BoundStep). is_by_row s.map) steps ≡ t → (t || list_all (λ (s : BoundStep). not (is_by_row s.map)) steps) ≡ true → AllByRecursion (λ (s : BoundStep). is_by_row s.map ≡ has_row_maps steps) steps
    go true all h = AllByRecursion-from_In (λ (s : BoundStep). is_by_row s.map ≡ has_row_maps steps) steps (λ s at.
        let here : is_by_row s.map ≡ true = all-In (λ (s : BoundStep). is_by_row s.map) steps all s at in
        here ∙ sym (any-In (λ (s : BoundStep). is_by_row s.map) s steps at here))
    go false all h = AllByRecursion-from_In (λ (s : BoundStep). is_by_row s.map ≡ has_row_maps steps) steps (λ s at.
        not-true (is_by_row s.map) (all-In (λ (s : BoundStep). not (is_by_row s.map)) steps h s at) ∙ sym (none_any steps h))

upper_sets : (kind : Kind) (first : NamedProblem) (steps : List BoundStep) → steps_fit kind first steps ≡ true → is_lower kind ≡ false → AllByRecursion (λ (s : BoundStep). is_by_row s.map ≡ false) steps
upper_sets kind first [] fits upper = tt
upper_sets kind first (s ∷ steps) fits upper =
    let two = and-true (step_fits kind first s) (steps_fit kind s.next steps) fits in
    (of_step s.lower (is_lower kind) (is_by_row s.map) upper (step_parts kind first s two.0).0, upper_sets kind s.next steps two.1 upper)
  where
    of_step : (a b c : Bool) → b ≡ false → cond a b (not b && not c) ≡ true → c ≡ false
    of_step true b c upper is = absurd (false≢true (sym upper ∙ is))
    of_step false b c upper is = not-true c (and-true (not b) (not c) is).1

-- the parts of a bound that fits
pub record Fits (bound : Bound) : Type 0 where
  pub few : length bound.steps ≤ MAX_STEPS
  pub steps : steps_fit bound.kind bound.first bound.steps ≡ true
  pub form : one_form bound.steps ≡ true
  pub renaming : renaming_fits bound ≡ true

pub bound_fits : (bound : Bound) → is_bound bound ≡ true → Fits bound
bound_fits bound is =
    let three = and-true (leb (length bound.steps) MAX_STEPS && steps_fit bound.kind bound.first bound.steps && one_form bound.steps) (renaming_fits bound) is in
    let two = and-true (leb (length bound.steps) MAX_STEPS && steps_fit bound.kind bound.first bound.steps) (one_form bound.steps) three.0 in
    let one = and-true (leb (length bound.steps) MAX_STEPS) (steps_fit bound.kind bound.first bound.steps) two.0 in
    record { few = leb-true (length bound.steps) MAX_STEPS one.0; steps = one.1; form = two.1; renaming = three.1 }

-- each map is by rows exactly where some is, in a lower bound
pub all_formed : (bound : Bound) → is_bound bound ≡ true → AllByRecursion (λ (s : BoundStep). is_by_row s.map ≡ (has_row_maps bound.steps && is_lower bound.kind)) bound.steps
all_formed bound is = go (is_lower bound.kind) refl
  where
    and_right : (t : Bool) → t ≡ (t && true)
    and_right true = refl
    and_right false = refl

    and_none : (t : Bool) → false ≡ (t && false)
    and_none true = refl
    and_none false = refl

    go : (t : Bool) → is_lower bound.kind ≡ t → AllByRecursion (λ (s : BoundStep). is_by_row s.map ≡ (has_row_maps bound.steps && t)) bound.steps
    go true lower = AllByRecursion-weaker (λ (s : BoundStep). is_by_row s.map ≡ has_row_maps bound.steps) (λ (s : BoundStep). is_by_row s.map ≡ (has_row_maps bound.steps && true)) (λ s e. e ∙ and_right (has_row_maps bound.steps)) bound.steps (formed bound.steps (bound_fits bound is).form)
    go false upper = AllByRecursion-weaker (λ (s : BoundStep). is_by_row s.map ≡ false) (λ (s : BoundStep). is_by_row s.map ≡ (has_row_maps bound.steps && false)) (λ s e. e ∙ and_none (has_row_maps bound.steps)) bound.steps (upper_sets bound.kind bound.first bound.steps (bound_fits bound is).steps upper)

-- a fixed point goes back to a problem before the last one, by pairs of labels of both
pub record IsBack (bound : Bound) : Type 0 where
  pub before : ltb bound.back (length bound.steps) ≡ true
  pub pairs : list_all (pair_fits (last_problem bound) (problem_at bound bound.back)) bound.renaming ≡ true

pub back_of : (bound : Bound) → renaming_fits bound ≡ true → is_fixed bound.kind ≡ true → IsBack bound
back_of bound fits fixed =
    let test = ltb bound.back (length bound.steps) in
    let all = list_all (pair_fits (last_problem bound) (problem_at bound bound.back)) bound.renaming in
    let two = and-true test all (sym (ap (λ t. cond t (test && all) (eqb bound.back 0 && is_nil bound.renaming)) fixed) ∙ fits) in
    record { before = two.0; pairs = two.1 }

pub back_ready : (bound : Bound) → is_bound bound ≡ true → is_fixed bound.kind ≡ true → bound.back < length bound.steps
back_ready bound is fixed = below_of (length bound.steps) bound.back (back_of bound (bound_fits bound is).renaming fixed).before

module _ (bound : Bound) (is : is_bound bound ≡ true) (fixed : is_fixed bound.kind ≡ true) (pairs : List (ℕ × ℕ)) (same : pairs ≡ bound.renaming) where
  ready : AllByRecursion (λ (pair : ℕ × ℕ). (pair.0 < length (last_problem bound).names) × (pair.1 < length (problem_at bound bound.back).names)) pairs
  ready =
      subst (λ l. AllByRecursion (λ (pair : ℕ × ℕ). (pair.0 < length (last_problem bound).names) × (pair.1 < length (problem_at bound bound.back).names)) l) (sym same)
      (pairs_held (last_problem bound) (problem_at bound bound.back) bound.renaming (back_of bound (bound_fits bound is).renaming fixed).pairs)

  pub lefts_ready : (names : List (List ℕ)) → names ≡ (last_problem bound).names → AllByRecursion (λ (pair : ℕ × ℕ). pair.0 < length names) pairs
  lefts_ready names named = AllByRecursion-weaker _ (λ (pair : ℕ × ℕ). pair.0 < length names) (λ pair low. subst (λ l. pair.0 < length l) (sym named) low.0) pairs ready

  pub rights_ready : (names : List (List ℕ)) → names ≡ (problem_at bound bound.back).names → AllByRecursion (λ (pair : ℕ × ℕ). pair.1 < length names) pairs
  rights_ready names named = AllByRecursion-weaker _ (λ (pair : ℕ × ℕ). pair.1 < length names) (λ pair low. subst (λ l. pair.1 < length l) (sym named) low.1) pairs ready
