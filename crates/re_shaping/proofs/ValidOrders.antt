-- A valid bound stays valid in order, and a sound chain sound: the lists that the clauses ask about stand in order already.
use Rattle.std.proofs.Common.{◌≡◌, ℕ, suc, ◌<◌, Bool, true, false, not, ◌&&◌, cond, Option, None, Some, List, [], ◌∷◌, ◌++◌, length, map, drop, refl, sym, ap, ◌∙◌, subst, arith}
use Rattle.std.proofs.lemmas.List.{length-map}
use Rattle.std.proofs.lemmas.Slice.Eq.{bytes_eq-Decides}
use Rattle.std.specs.List.{AllByRecursion, list_all, zip}
use Rattle.std.specs.Ordering.{is_lt, nat_cmp}
use Rattle.std.specs.Prelude.{if◌then◌else◌, option_map, slice_index_or}
use Rattle.std.specs.Str.{bytes_eq}
use Rattle.re_labels.proofs.Before.{nat_cmp-greater}
use Rattle.re_labels.proofs.Numbers.{IsLabelSet-count_from}
use Rattle.re_labels.proofs.Tests.{and-true}
use Rattle.re_labels.specs.Lists.{IsRising, count_from}
use Rattle.re_labels.specs.Sets.{number}
use Rattle.re_labels.proofs.Rows.{RowBefore}
use Rattle.re_problem.specs.Verdicts.{renaming_verdict}
use Rattle.re_labels.proofs.MaxRows.{rising-max_rows}
use Rattle.re_labels.proofs.MaxSets.{IsLowerSet, rising-max_sets}
use Rattle.re_labels.specs.GoodRows.{max_rows, max_sets}
use Rattle.re_problem.specs.NamedProblems.{IsNamedProblem, NamedProblem, unnamed}
use Rattle.re_problem.specs.ProblemTexts.{last_or}
use Rattle.re_problem.specs.Steps.{LowerMap, SetEntry, entry_sets}
use Rattle.re_problem.specs.Steps.LowerMap.{by_row, by_set}
use Rattle.re_cert.specs.Bounds.{BoundStep, is_fixed, next_problems}
use Rattle.re_cert.specs.declared.certificate.Kind.{Kind}
use Rattle.re_boxes.specs.Ordering.{is_row_before}
use Rattle.re_check.proofs.StepMeaning.{all_pass, lists-Decides, rows-Decides}
use Rattle.re_check.specs.Clauses.{is_filled, meets, sets_in, step_clauses, step_fault}
use Rattle.re_check.specs.declared.clause.Clause.TheVariants.{Back, End, L1, L2, L3, L4, L5, U1, U2, U3, U4}
use Rattle.re_check.proofs.Meaning.{both_met, neither}
use Rattle.re_check.specs.Verdicts.{end_fault, ends_well, fault_at, fault_or, goes_back, is_yes, steps_fault}
use Rattle.re_check.specs.declared.verdict.ClauseFault.{ClauseFault}
use Rattle.re_shaping.proofs.OrderedBounds.{images-zip, rows_rank}
use Rattle.re_shaping.proofs.TidiedBounds.{problems_kept, tidied_bound}
use Rattle.re_shaping.specs.Ordered.{SoundOrderLaw, ValidOrderLaw}
use Rattle.re_shaping.specs.Orders.{in_order, inserted}
use Rattle.re_shaping.specs.Tidied.{first_row_before, images_in_order, label_before, map_in_order, pair_before, set_before, step_in_order, tidied}

-- ---- lists that are in order
kept_in_order : {X : Type 0} (before : X → X → Bool) (xs : List X) → IsRising (λ x y. before y x ≡ false) xs → in_order before xs ≡ xs
kept_in_order before [] rises = refl
kept_in_order before (x ∷ []) rises = refl
kept_in_order before (x ∷ y ∷ ys) rises =
    ap (inserted before x) (kept_in_order before (y ∷ ys) rises.1) ∙ ap (λ b. cond b (y ∷ inserted before x ys) (x ∷ y ∷ ys)) rises.0

rising-from_map : {X Y : Type 0} (R : Y → Y → Type 0) (S : X → X → Type 0) (f : X → Y) (xs : List X) → ((x y : X) → R (f x) (f y) → S x y) → IsRising R (map f xs) → IsRising S xs
rising-from_map R S f [] weaker rises = tt
rising-from_map R S f (x ∷ []) weaker rises = tt
rising-from_map R S f (x ∷ y ∷ ys) weaker rises = (weaker x y rises.0, rising-from_map R S f (y ∷ ys) weaker rises.1)

not_lower : (x y : ℕ) → x < y → is_lt (nat_cmp y x) ≡ false
not_lower x y low = ap is_lt (nat_cmp-greater y x low)

rows_kept : (rows : List (List (List ℕ))) → IsRising RowBefore rows → in_order is_row_before rows ≡ rows
rows_kept rows rises =
    kept_in_order is_row_before rows (rising-from_map RowBefore (λ row other. is_row_before other row ≡ false) (λ row. row) rows
    (λ row other low. rows_rank.one_way row other (ap is_lt low)) (subst (IsRising RowBefore) (sym (map-self rows)) rises))
  where
    map-self : (rows : List (List (List ℕ))) → map (λ row. row) rows ≡ rows
    map-self [] = refl
    map-self (row ∷ rows) = ap (λ l. row ∷ l) (map-self rows)

sets_kept : (entries : List SetEntry) → IsRising IsLowerSet (entry_sets entries) → in_order set_before entries ≡ entries
sets_kept entries rises =
    kept_in_order set_before entries (rising-from_map IsLowerSet (λ entry other. set_before other entry ≡ false) (λ (entry : SetEntry). entry.set) entries
    (λ entry other low. not_lower (number entry.set) (number other.set) low) rises)

count_rises : (n : ℕ) → IsRising (λ x y. x < y) (count_from 0 n)
count_rises n = (IsLabelSet-count_from 0 n n (omega arith)).0

labels_kept : (entries : List SetEntry) (n : ℕ) → map (λ (entry : SetEntry). entry.label) entries ≡ count_from 0 n → in_order label_before entries ≡ entries
labels_kept entries n same =
    kept_in_order label_before entries (rising-from_map (λ x y. x < y) (λ entry other. label_before other entry ≡ false) (λ (entry : SetEntry). entry.label) entries
    (λ entry other low. not_lower entry.label other.label low) (subst (IsRising (λ x y. x < y)) (sym same) (count_rises n)))

pairs_kept : (pairs : List (ℕ × ℕ)) (n : ℕ) → map (λ (pair : ℕ × ℕ). pair.0) pairs ≡ count_from 0 n → in_order pair_before pairs ≡ pairs
pairs_kept pairs n same =
    kept_in_order pair_before pairs (rising-from_map (λ x y. x < y) (λ pair other. pair_before other pair ≡ false) (λ (pair : ℕ × ℕ). pair.0) pairs
    (λ pair other low. not_lower pair.0 other.0 low) (subst (IsRising (λ x y. x < y)) (sym same) (count_rises n)))

-- images with rows that ascend
rising-zip : (rows : List (List (List ℕ))) (images : List (List ℕ)) → IsRising RowBefore rows
    → IsRising (λ (pair other : List (List ℕ) × List ℕ). first_row_before other pair ≡ false) (zip rows images)
rising-zip [] images rises = tt
rising-zip (row ∷ rows) [] rises = tt
rising-zip (row ∷ []) (image ∷ images) rises = tt
rising-zip (row ∷ other ∷ rows) (image ∷ []) rises = tt
rising-zip (row ∷ other ∷ rows) (image ∷ next ∷ images) rises =
    (rows_rank.one_way row other (ap is_lt rises.0), rising-zip (other ∷ rows) (next ∷ images) rises.1)

images_kept : (rows : List (List (List ℕ))) (images : List (List ℕ)) → IsRising RowBefore rows → images_in_order rows images ≡ images
images_kept rows images rises =
    ap (λ (pairs : List (List (List ℕ) × List ℕ)). map (λ (pair : List (List ℕ) × List ℕ). pair.1) pairs ++ drop (length rows) images) (kept_in_order first_row_before (zip rows images) (rising-zip rows images rises))
    ∙ images-zip rows images

-- ---- steps that meet their clauses
map_kept : (before next : NamedProblem) (rows : List (List (List ℕ))) (map : LowerMap) → rows ≡ max_rows before.passive (length before.names)
    → meets before (record { lower = true; next = next; rows = rows; map = map }) L3 ≡ true → map_in_order true rows map ≡ map
map_kept before next rows (by_set entries) maximal met =
    let n = length before.names in
    let sets : entry_sets entries ≡ max_sets before.passive n = (lists-Decides (entry_sets entries) (sets_in n rows)).0 met ∙ ap (sets_in n) maximal in
    ap by_set (sets_kept entries (subst (IsRising IsLowerSet) (sym sets) (rising-max_sets before.passive n)))
map_kept before next rows (by_row images) maximal met =
    ap by_row (images_kept rows images (subst (IsRising RowBefore) (sym maximal) (rising-max_rows before.passive (length before.names))))

-- the entries of an upper step that meets its clauses
entries_kept : (before next : NamedProblem) (rows : List (List (List ℕ))) (entries : List SetEntry)
    → meets before (record { lower = false; next = next; rows = rows; map = by_set entries }) U2 ≡ true → in_order label_before entries ≡ entries
entries_kept before next rows entries met =
    let labels = map (λ (entry : SetEntry). entry.label) entries in
    let both = and-true (bytes_eq labels (count_from 0 (length next.names))) (list_all (is_filled before) (entry_sets entries)) met in
    labels_kept entries (length next.names) ((bytes_eq-Decides labels (count_from 0 (length next.names))).0 both.0)

step_kept : (before next : NamedProblem) (lower : Bool) (rows : List (List (List ℕ))) (map : LowerMap)
    → step_fault before (record { lower = lower; next = next; rows = rows; map = map }) ≡ None
    → step_fault before (step_in_order (record { lower = lower; next = next; rows = rows; map = map })) ≡ None
step_kept before next true rows map none =
    let s : BoundStep = record { lower = true; next = next; rows = rows; map = map } in
    let met : AllByRecursion (λ clause. meets before s clause ≡ true) (L1 ∷ L2 ∷ L3 ∷ L4 ∷ L5 ∷ []) = all_pass (meets before s) (step_clauses s) none in
    let maximal : rows ≡ max_rows before.passive (length before.names) = (rows-Decides rows (max_rows before.passive (length before.names))).0 met.1.0 in
    let same_rows = rows_kept rows (subst (IsRising RowBefore) (sym maximal) (rising-max_rows before.passive (length before.names))) in
    ap (λ r. step_fault before (record { lower = true; next = next; rows = r; map = map_in_order true rows map })) same_rows
    ∙ ap (λ m. step_fault before (record { lower = true; next = next; rows = rows; map = m })) (map_kept before next rows map maximal met.1.1.0)
    ∙ none
step_kept before next false rows (by_set entries) none =
    let s : BoundStep = record { lower = false; next = next; rows = rows; map = by_set entries } in
    let met : AllByRecursion (λ clause. meets before s clause ≡ true) (U1 ∷ U2 ∷ U3 ∷ U4 ∷ []) = all_pass (meets before s) (step_clauses s) none in
    ap (λ l. step_fault before (record { lower = false; next = next; rows = rows; map = by_set l })) (entries_kept before next rows entries met.1.0) ∙ none
step_kept before next false rows (by_row images) none = none

steps_kept : (before : NamedProblem) (number : ℕ) (steps : List BoundStep) → steps_fault before number steps ≡ None → steps_fault before number (map step_in_order steps) ≡ None
steps_kept before number [] none = refl
steps_kept before number (s ∷ steps) none =
    let both = both_met number before s steps none in
    ap (λ o. fault_or (option_map (fault_at number) o) (steps_fault s.next (suc number) (map step_in_order steps))) (step_kept before s.next s.lower s.rows s.map both.0)
    ∙ steps_kept s.next (suc number) steps both.1

-- ---- the end
-- the fault of the end, by the problems behind the steps, and by how many steps there are
end_with : Kind → ℕ → NamedProblem → ℕ → List NamedProblem → List (ℕ × ℕ) → Option ClauseFault
end_with kind back first steps problems pairs =
    if not (ends_well kind (last_or first problems)) then Some (fault_at steps End)
    else if is_fixed kind && not (goes_back (last_or first problems) (slice_index_or (first ∷ problems) back first) pairs) then Some (fault_at steps Back)
    else None

renaming_kept : (last target : NamedProblem) (pairs : List (ℕ × ℕ)) → goes_back last target pairs ≡ true → in_order pair_before pairs ≡ pairs
renaming_kept last target pairs back =
    let firsts = map (λ (pair : ℕ × ℕ). pair.0) pairs in
    let both =
    and-true (bytes_eq firsts (count_from 0 (length last.names))) (is_yes (renaming_verdict (unnamed last) (unnamed target) (map (λ (pair : ℕ × ℕ). pair.1) pairs))) back in
    pairs_kept pairs (length last.names) ((bytes_eq-Decides firsts (count_from 0 (length last.names))).0 both.0)

end_kept : (kind : Kind) (back : ℕ) (first : NamedProblem) (steps : ℕ) (problems : List NamedProblem) (pairs : List (ℕ × ℕ))
    → end_with kind back first steps problems pairs ≡ None → end_with kind back first steps problems (in_order pair_before pairs) ≡ None
unfolding end_with
end_kept kind back first steps problems pairs none =
    go (ends_well kind last) (is_fixed kind) (goes_back last target pairs) refl none
  where
    last : NamedProblem
    last = last_or first problems

    target : NamedProblem
    target = slice_index_or (first ∷ problems) back first

    ends : Bool → Bool → Bool → Option ClauseFault
    ends e f b = if not e then Some (fault_at steps End) else if f && not b then Some (fault_at steps Back) else None

    go : (e f b : Bool) → goes_back last target pairs ≡ b → ends e f b ≡ None → ends e f (goes_back last target (in_order pair_before pairs)) ≡ None
    go false f b is h = absurd (cc)
    go true false b is h = refl
    go true true false is h = absurd (cc)
    go true true true is h = ap (ends true true) (ap (goes_back last target) (renaming_kept last target pairs is) ∙ is)

-- ---- bounds
pub valid_order_law : ValidOrderLaw
unfolding end_with
valid_order_law bound none =
    let both = neither (steps_fault bound.first 1 bound.steps) (end_fault bound) none in
    let count : length (map step_in_order bound.steps) ≡ length bound.steps = length-map bound.steps step_in_order in
    let end : end_fault (tidied bound) ≡ None =
    ap (λ n. end_with bound.kind bound.back bound.first n (next_problems (map step_in_order bound.steps)) (in_order pair_before bound.renaming)) count
    ∙ ap (λ problems. end_with bound.kind bound.back bound.first (length bound.steps) problems (in_order pair_before bound.renaming)) (problems_kept bound.steps)
    ∙ end_kept bound.kind bound.back bound.first (length bound.steps) (next_problems bound.steps) bound.renaming both.1 in
    ap (λ o. fault_or o (end_fault (tidied bound))) (steps_kept bound.first 1 bound.steps both.0) ∙ end

pub sound_order_law : SoundOrderLaw
sound_order_law bound is = record {
  bound = tidied_bound bound ∙ is.bound;
  problems = record { first = is.problems.first; next = subst (AllByRecursion IsNamedProblem) (sym (problems_kept bound.steps)) is.problems.next };
  sound = steps_kept bound.first 1 bound.steps is.sound;
}
