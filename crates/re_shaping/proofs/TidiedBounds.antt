-- A bound in order is a bound.
use Rattle.std.proofs.Common.{◌≡◌, ℕ, suc, ◌+◌, Some, None, Bool, true, false, not, ◌&&◌, ◌||◌, cond, List, [], ◌∷◌, length, map, drop, refl, ap, ◌∙◌, arith, length-append}
use Rattle.std.proofs.lemmas.List.{length-map}
use Rattle.std.specs.List.{list_all, zip}
use Rattle.std.specs.Prelude.{◌==◌, if◌then◌else◌, nat_le, nat_lt, slice_index_or}
use Rattle.re_labels.proofs.Membership.{all-append}
use Rattle.re_problem.specs.ItemSteps.{is_nil}
use Rattle.re_problem.specs.NamedProblems.{NamedProblem}
use Rattle.re_problem.specs.ProblemTexts.{last_or}
use Rattle.re_problem.specs.Steps.{LowerMap}
use Rattle.re_problem.specs.Steps.LowerMap.{by_row, by_set}
use Rattle.re_cert.specs.Bounds.{Bound, BoundStep, built, entry_fits, image_fits, is_bound, is_by_row, is_fixed, is_lower, kind_fits, map_fits, next_problems, one_form, pair_fits, renaming_fits, row_fits, step_fits, steps_fit}
use Rattle.re_cert.specs.declared.certificate.Kind.{Kind}
use Rattle.re_cert.specs.declared.certificate.TheConstants.{MAX_STEPS}
use Rattle.re_labels.specs.declared.TheConstants.{MAX_ROWS}
use Rattle.re_labels.proofs.SaidChoices.{all-map}
use Rattle.re_boxes.specs.Ordering.{is_row_before}
use Rattle.re_shaping.specs.Orders.{in_order, inserted}
use Rattle.re_shaping.specs.Tidied.{first_row_before, images_in_order, map_in_order, pair_before, step_in_order, tidied}

-- ---- lists in order
swapped : (a b c : Bool) → (a && (b && c)) ≡ (b && (a && c))
swapped true true c = refl
swapped true false c = refl
swapped false true c = refl
swapped false false c = refl

module _ {X : Type 0} (before : X → X → Bool) where
  all_inserted : (p : X → Bool) (x : X) (ys : List X) → list_all p (inserted before x ys) ≡ (p x && list_all p ys)
  all_inserted p x [] = refl
  all_inserted p x (y ∷ ys) = go (before y x) (all_inserted p x ys)
    where
      go : (b : Bool) → list_all p (inserted before x ys) ≡ (p x && list_all p ys) → list_all p (cond b (y ∷ inserted before x ys) (x ∷ y ∷ ys)) ≡ (p x && (p y && list_all p ys))
      go true e = ap (λ b. p y && b) e ∙ swapped (p y) (p x) (list_all p ys)
      go false e = refl

  pub all_in_order : (p : X → Bool) (xs : List X) → list_all p (in_order before xs) ≡ list_all p xs
  all_in_order p [] = refl
  all_in_order p (x ∷ xs) = all_inserted p x (in_order before xs) ∙ ap (λ b. p x && b) (all_in_order p xs)

  length_inserted : (x : X) (ys : List X) → length (inserted before x ys) ≡ suc (length ys)
  length_inserted x [] = refl
  length_inserted x (y ∷ ys) = go (before y x) (length_inserted x ys)
    where
      go : (b : Bool) → length (inserted before x ys) ≡ suc (length ys) → length (cond b (y ∷ inserted before x ys) (x ∷ y ∷ ys)) ≡ suc (suc (length ys))
      go true e = ap suc e
      go false e = refl

  pub length_in_order : (xs : List X) → length (in_order before xs) ≡ length xs
  length_in_order [] = refl
  length_in_order (x ∷ xs) = length_inserted x (in_order before xs) ∙ ap suc (length_in_order xs)

-- ---- images with their rows
-- the images that have a row, and those behind them
all_zipped : (p : List ℕ → Bool) (rows : List (List (List ℕ))) (images : List (List ℕ))
    → (list_all (λ (pair : List (List ℕ) × List ℕ). p pair.1) (zip rows images) && list_all p (drop (length rows) images)) ≡ list_all p images
all_zipped p [] images = refl
all_zipped p (row ∷ rows) [] = refl
all_zipped p (row ∷ rows) (image ∷ images) = go (p image) (all_zipped p rows images)
  where
    go : (b : Bool) → (list_all (λ (pair : List (List ℕ) × List ℕ). p pair.1) (zip rows images) && list_all p (drop (length rows) images)) ≡ list_all p images
        → ((b && list_all (λ (pair : List (List ℕ) × List ℕ). p pair.1) (zip rows images)) && list_all p (drop (length rows) images)) ≡ (b && list_all p images)
    go true e = e
    go false e = refl

length_zipped : (rows : List (List (List ℕ))) (images : List (List ℕ)) → length (zip rows images) + length (drop (length rows) images) ≡ length images
length_zipped [] images = omega arith
length_zipped (row ∷ rows) [] = refl
length_zipped (row ∷ rows) (image ∷ images) = let rest = length_zipped rows images in omega arith

all_images : (p : List ℕ → Bool) (rows : List (List (List ℕ))) (images : List (List ℕ)) → list_all p (images_in_order rows images) ≡ list_all p images
all_images p rows images =
    all-append p (map (λ (pair : List (List ℕ) × List ℕ). pair.1) (in_order first_row_before (zip rows images))) (drop (length rows) images)
    ∙ ap (λ b. b && list_all p (drop (length rows) images))
    (all-map p (λ (pair : List (List ℕ) × List ℕ). pair.1) (in_order first_row_before (zip rows images)) ∙ all_in_order first_row_before (λ (pair : List (List ℕ) × List ℕ). p pair.1) (zip rows images))
    ∙ all_zipped p rows images

pub length_images : (rows : List (List (List ℕ))) (images : List (List ℕ)) → length (images_in_order rows images) ≡ length images
length_images rows images =
    length-append (map (λ (pair : List (List ℕ) × List ℕ). pair.1) (in_order first_row_before (zip rows images))) (drop (length rows) images)
    ∙ ap (λ n. n + length (drop (length rows) images)) (length-map (in_order first_row_before (zip rows images)) (λ (pair : List (List ℕ) × List ℕ). pair.1) ∙ length_in_order first_row_before (zip rows images))
    ∙ length_zipped rows images

-- ---- steps
form_kept : (lower : Bool) (rows : List (List (List ℕ))) (map : LowerMap) → is_by_row (map_in_order lower rows map) ≡ is_by_row map
form_kept lower rows (by_set entries) = refl
form_kept lower rows (by_row images) = refl

map_kept : (before next : NamedProblem) (lower : Bool) (rows : List (List (List ℕ))) (map : LowerMap) → map_fits before next (map_in_order lower rows map) ≡ map_fits before next map
map_kept before next lower rows (by_set entries) = all_in_order _ (entry_fits before next) entries
map_kept before next lower rows (by_row images) =
    ap (λ n. nat_le n MAX_ROWS && list_all (image_fits before next) (images_in_order rows images)) (length_images rows images)
    ∙ ap (λ b. nat_le (length images) MAX_ROWS && b) (all_images (image_fits before next) rows images)

step_kept : (kind : Kind) (before : NamedProblem) (s : BoundStep) → step_fits kind before (step_in_order s) ≡ step_fits kind before s
step_kept kind before s =
    ap (λ b. (if s.lower then is_lower kind else not (is_lower kind) && not b) && nat_le (length (in_order is_row_before s.rows)) MAX_ROWS && list_all (row_fits before) (in_order is_row_before s.rows)
    && map_fits before s.next (map_in_order s.lower s.rows s.map)) (form_kept s.lower s.rows s.map)
    ∙ ap (λ n. kind_fits kind s && nat_le n MAX_ROWS && list_all (row_fits before) (in_order is_row_before s.rows) && map_fits before s.next (map_in_order s.lower s.rows s.map)) (length_in_order is_row_before s.rows)
    ∙ ap (λ b. kind_fits kind s && nat_le (length s.rows) MAX_ROWS && b && map_fits before s.next (map_in_order s.lower s.rows s.map)) (all_in_order is_row_before (row_fits before) s.rows)
    ∙ ap (λ b. kind_fits kind s && nat_le (length s.rows) MAX_ROWS && list_all (row_fits before) s.rows && b) (map_kept before s.next s.lower s.rows s.map)

steps_kept : (kind : Kind) (before : NamedProblem) (steps : List BoundStep) → steps_fit kind before (map step_in_order steps) ≡ steps_fit kind before steps
steps_kept kind before [] = refl
steps_kept kind before (s ∷ steps) =
    ap (λ b. b && steps_fit kind s.next (map step_in_order steps)) (step_kept kind before s) ∙ ap (λ b. step_fits kind before s && b) (steps_kept kind s.next steps)

forms_kept : (p : Bool → Bool) (steps : List BoundStep) → list_all (λ (s : BoundStep). p (is_by_row s.map)) (map step_in_order steps) ≡ list_all (λ (s : BoundStep). p (is_by_row s.map)) steps
forms_kept p [] = refl
forms_kept p (s ∷ steps) =
    ap (λ b. p b && list_all (λ (t : BoundStep). p (is_by_row t.map)) (map step_in_order steps)) (form_kept s.lower s.rows s.map) ∙ ap (λ b. p (is_by_row s.map) && b) (forms_kept p steps)

one_form_kept : (steps : List BoundStep) → one_form (map step_in_order steps) ≡ one_form steps
one_form_kept steps =
    ap (λ b. b || list_all (λ (s : BoundStep). not (is_by_row s.map)) (map step_in_order steps)) (forms_kept (λ b. b) steps)
    ∙ ap (λ b. list_all (λ (s : BoundStep). is_by_row s.map) steps || b) (forms_kept not steps)

pub problems_kept : (steps : List BoundStep) → next_problems (map step_in_order steps) ≡ next_problems steps
problems_kept [] = refl
problems_kept (s ∷ steps) = ap (λ l. s.next ∷ l) (problems_kept steps)

-- ---- bounds
-- whether a renaming fits, by the problems behind the steps, and by how many steps there are
fits_with : Kind → ℕ → NamedProblem → ℕ → List NamedProblem → List (ℕ × ℕ) → Bool
fits_with kind back first steps problems pairs =
    if is_fixed kind then nat_lt back steps && list_all (pair_fits (last_or first problems) (slice_index_or (first ∷ problems) back first)) pairs
    else back == 0 && is_nil pairs

nil_in_order : (pairs : List (ℕ × ℕ)) → is_nil (in_order pair_before pairs) ≡ is_nil pairs
nil_in_order [] = refl
nil_in_order (pair ∷ pairs) = filled (in_order pair_before (pair ∷ pairs)) (length_in_order pair_before (pair ∷ pairs))
  where
    filled : (l : List (ℕ × ℕ)) → length l ≡ suc (length pairs) → is_nil l ≡ false
    filled [] e = absurd (omega arith)
    filled (x ∷ l) e = refl

pairs_kept : (kind : Kind) (back : ℕ) (first : NamedProblem) (steps : ℕ) (problems : List NamedProblem) (pairs : List (ℕ × ℕ))
    → fits_with kind back first steps problems (in_order pair_before pairs) ≡ fits_with kind back first steps problems pairs
unfolding fits_with
pairs_kept kind back first steps problems pairs =
    ap (λ b. if is_fixed kind then nat_lt back steps && b else back == 0 && is_nil (in_order pair_before pairs))
    (all_in_order pair_before (pair_fits (last_or first problems) (slice_index_or (first ∷ problems) back first)) pairs)
    ∙ ap (λ b. if is_fixed kind then nat_lt back steps && list_all (pair_fits (last_or first problems) (slice_index_or (first ∷ problems) back first)) pairs else back == 0 && b)
    (nil_in_order pairs)

renaming_kept : (bound : Bound) → renaming_fits (tidied bound) ≡ renaming_fits bound
unfolding fits_with
renaming_kept bound =
    ap (λ n. fits_with bound.kind bound.back bound.first n (next_problems (map step_in_order bound.steps)) (in_order pair_before bound.renaming)) (length-map bound.steps step_in_order)
    ∙ ap (λ problems. fits_with bound.kind bound.back bound.first (length bound.steps) problems (in_order pair_before bound.renaming)) (problems_kept bound.steps)
    ∙ pairs_kept bound.kind bound.back bound.first (length bound.steps) (next_problems bound.steps) bound.renaming

pub tidied_bound : (bound : Bound) → is_bound (tidied bound) ≡ is_bound bound
tidied_bound bound =
    ap (λ n. nat_le n MAX_STEPS && steps_fit bound.kind bound.first (map step_in_order bound.steps) && one_form (map step_in_order bound.steps) && renaming_fits (tidied bound)) (length-map bound.steps step_in_order)
    ∙ ap (λ b. nat_le (length bound.steps) MAX_STEPS && b && one_form (map step_in_order bound.steps) && renaming_fits (tidied bound)) (steps_kept bound.kind bound.first bound.steps)
    ∙ ap (λ b. nat_le (length bound.steps) MAX_STEPS && steps_fit bound.kind bound.first bound.steps && b && renaming_fits (tidied bound)) (one_form_kept bound.steps)
    ∙ ap (λ b. nat_le (length bound.steps) MAX_STEPS && steps_fit bound.kind bound.first bound.steps && one_form bound.steps && b) (renaming_kept bound)

-- the parts of a bound in order are built
pub tidied_built : (bound : Bound) (kind : Kind) (back : ℕ) (first : NamedProblem) (steps : List BoundStep) (renaming : List (ℕ × ℕ)) → is_bound bound ≡ true → kind ≡ bound.kind → back ≡ bound.back → first ≡ bound.first
    → steps ≡ map step_in_order bound.steps → renaming ≡ in_order pair_before bound.renaming → built (record { kind = kind; back = back; first = first; steps = steps; renaming = renaming }) ≡ Some (tidied bound)
tidied_built bound kind back first steps renaming is k b f s r =
    ap built
    (ap (λ x. record { kind = x; back = back; first = first; steps = steps; renaming = renaming }) k ∙ ap (λ x. record { kind = bound.kind; back = x; first = first; steps = steps; renaming = renaming }) b
    ∙ ap (λ x. record { kind = bound.kind; back = bound.back; first = x; steps = steps; renaming = renaming }) f ∙ ap (λ x. record { kind = bound.kind; back = bound.back; first = bound.first; steps = x; renaming = renaming }) s
    ∙ ap (λ x. record { kind = bound.kind; back = bound.back; first = bound.first; steps = map step_in_order bound.steps; renaming = x }) r)
    ∙ ap (λ t. if t then Some (tidied bound) else None) (tidied_bound bound ∙ is)
