-- The tests of the clauses, and what the calls that they stand on tell.
use Rattle.std.proofs.Common.{◌≡◌, ℕ, ◌<◌, ◌≤◌, Bool, true, false, not, eqb, ltb, List, [], ◌∷◌, length, map, refl, sym, ap, ◌∙◌, subst, arith, get_or}
use Rattle.std.proofs.lemmas.Bool.Decides.{nat_tests}
use Rattle.std.proofs.lemmas.Slice.Eq.{bytes_eq-Decides}
use Rattle.std.specs.Prelude.{◌&&◌, ◌↔◌, Contains, IsTrue, MatchBool}
use Rattle.std.specs.List.{AllByRecursion, list_all}
use Rattle.std.specs.Str.{bytes_eq}
use Rattle.re_labels.proofs.Membership.{AllByRecursion-contains, AllByRecursion-from_contains, Contains-map, In-Contains, not_all}
use Rattle.re_labels.proofs.Tests.{and-true, same_tests, true-and}
use Rattle.re_labels.specs.Lists.{IsRising, count_from}
use Rattle.re_labels.specs.Sets.{number}
use Rattle.re_labels.proofs.Rearranging.{Contains-Rearranged}
use Rattle.re_labels.proofs.Sorting.{Rearranged-sorted}
use Rattle.re_labels.specs.Configs.{IsConfig, sorted}
use Rattle.re_labels.proofs.Goodness.{Has-has_config, IsAllowed-is_allowed, IsGood-is_good, has_config-Has, is_allowed-IsAllowed, is_good-IsGood}
use Rattle.re_labels.proofs.MaxSets.{max_sets-row}
use Rattle.re_labels.specs.Constraints.{Constraint, Has, IsConstraint, has_config}
use Rattle.re_labels.specs.GoodRows.{allowed, max_rows, max_sets}
use Rattle.re_problem.specs.NamedProblems.{NamedProblem}
use Rattle.re_problem.specs.Steps.{SetEntry, entry_sets, label_at, label_of, set_for}
use Rattle.re_cert.specs.Bounds.{is_label}
use Rattle.re_check.proofs.StepMeaning.{all_held, all_there, by_row-tells, lists-Decides, rows-Decides}
use Rattle.re_check.specs.Clauses.{are_allowed, are_good, are_maximal, have_labels, have_row_sets, is_filled, keep_allowed, keep_allowed_by_row, keep_images, keep_rows, sets_in}
use Rattle.re_check.proofs.NextLabels.{next-count}
use Rattle.re_check.proofs.RowSets.{place_of-there, row_sets_law, sets-place}
use Rattle.re_check.proofs.Telling.{held-read, read-held}
use Rattle.re_problem.proofs.ImageRows.{known_labels}
use Rattle.re_check.specs.StepClauses.{HasAllowedImages, HasGoodImages, HasNextLabels, HasRowSets, KeepsAllowed, KeepsAllowedByRow, KeepsImages, KeepsRows, OccursInRows}
use Rattle.re_labels.specs.declared.TheConstants.{MAX_LABELS}

-- ---- rows
pub maximal-test : (before : NamedProblem) (rows : List (List (List ℕ))) (r : Bool)
    → MatchBool r (rows ≡ max_rows before.passive (length before.names)) (rows ≡ max_rows before.passive (length before.names) → ⊥) → r ≡ are_maximal before rows
maximal-test before rows true is = sym ((rows-Decides rows (max_rows before.passive (length before.names))).1 is)
maximal-test before rows false isnt = go (are_maximal before rows) refl
  where
    go : (b : Bool) → are_maximal before rows ≡ b → false ≡ b
    go false e = refl
    go true e = absurd (isnt ((rows-Decides rows (max_rows before.passive (length before.names))).0 e))

pub maximal-rows : (before : NamedProblem) (rows : List (List (List ℕ))) → are_maximal before rows ≡ true → rows ≡ max_rows before.passive (length before.names)
maximal-rows before rows test = (rows-Decides rows (max_rows before.passive (length before.names))).0 test

pub row_sets-test : (before : NamedProblem) (rows : List (List (List ℕ))) (entries : List SetEntry) (r : Bool) → rows ≡ max_rows before.passive (length before.names)
    → IsTrue r ↔ HasRowSets rows entries → r ≡ have_row_sets before rows entries
row_sets-test before rows entries r maximal tells =
    let n = length before.names in
    let law = row_sets_law before.passive n entries in
    let sets : sets_in n rows ≡ max_sets before.passive n = ap (sets_in n) maximal in
    same_tests r (have_row_sets before rows entries)
    (λ t. (lists-Decides (entry_sets entries) (sets_in n rows)).1 (law.0 (subst (λ m. HasRowSets m entries) maximal (tells.0 t)) ∙ sym sets))
    (λ t. tells.1 (subst (λ m. HasRowSets m entries) (sym maximal) (law.1 ((lists-Decides (entry_sets entries) (sets_in n rows)).0 t ∙ sets))))

-- ---- images
pub rows-test : (active : Constraint) (rows : List (List (List ℕ))) (entries : List SetEntry) (r : Bool) → IsTrue r ↔ KeepsRows rows entries active → r ≡ keep_rows active rows entries
rows-test active rows entries r tells =
    same_tests r (keep_rows active rows entries)
    (λ t. all_held _ (λ row. Has active (map (label_of entries) row)) rows (λ row. Has-has_config active (map (label_of entries) row)) (tells.0 t))
    (λ t. tells.1 (all_there _ (λ row. Has active (map (label_of entries) row)) rows (λ row. has_config-Has active (map (label_of entries) row)) t))

pub allowed-test : (before passive : Constraint) (entries : List SetEntry) (r : Bool) → IsTrue r ↔ KeepsAllowed entries before passive → r ≡ keep_allowed before passive entries
allowed-test before passive entries r tells =
    same_tests r (keep_allowed before passive entries)
    (λ t. all_held _ (λ places. Has passive (map (label_at entries) places)) (allowed before (entry_sets entries) before.degree) (λ places. Has-has_config passive (map (label_at entries) places)) (tells.0 t))
    (λ t. tells.1 (all_there _ (λ places. Has passive (map (label_at entries) places)) (allowed before (entry_sets entries) before.degree) (λ places. has_config-Has passive (map (label_at entries) places)) t))

pub good-test : (before active : Constraint) (entries : List SetEntry) (r : Bool) → IsTrue r ↔ HasGoodImages entries active before → r ≡ are_good before active entries
good-test before active entries r tells =
    same_tests r (are_good before active entries)
    (λ t. all_held _ _ active.configs (λ config. IsGood-is_good before (map (set_for entries) config)) (tells.0 t))
    (λ t. tells.1 (all_there _ _ active.configs (λ config. is_good-IsGood before (map (set_for entries) config)) t))

pub allowed_images-test : (before passive : Constraint) (entries : List SetEntry) (r : Bool) → IsTrue r ↔ HasAllowedImages entries passive before → r ≡ are_allowed before passive entries
allowed_images-test before passive entries r tells =
    same_tests r (are_allowed before passive entries)
    (λ t. all_held _ _ passive.configs (λ config. IsAllowed-is_allowed before (map (set_for entries) config)) (tells.0 t))
    (λ t. tells.1 (all_there _ _ passive.configs (λ config. is_allowed-IsAllowed before (map (set_for entries) config)) t))

-- ---- images by rows
pub held_low : (constraint : Constraint) (labels : List ℕ) (x : ℕ) → IsConstraint MAX_LABELS constraint → Has constraint labels → Contains labels x → x < MAX_LABELS
held_low constraint labels x is has at =
    let config : IsConfig constraint.degree MAX_LABELS (sorted labels) = AllByRecursion-contains (IsConfig constraint.degree MAX_LABELS) constraint.configs (sorted labels) is.configs has in
    AllByRecursion-contains (λ y. y < MAX_LABELS) (sorted labels) x config.below (Contains-Rearranged x (Rearranged-sorted labels) at)

pub images-test : (active : Constraint) (images : List (List ℕ)) (r : Bool) → IsTrue r ↔ KeepsImages images active → r ≡ keep_images active images
images-test active images r tells =
    same_tests r (keep_images active images)
    (λ t. all_held (has_config active) (Has active) images (Has-has_config active) (tells.0 t))
    (λ t. tells.1 (all_there (has_config active) (Has active) images (has_config-Has active) t))

pub images-below : (active : Constraint) (images : List (List ℕ)) (r : Bool) → IsConstraint MAX_LABELS active → IsTrue r ↔ KeepsImages images active → IsTrue r → AllByRecursion (AllByRecursion (λ x. x < MAX_LABELS)) images
images-below active images r is tells t =
    AllByRecursion-from_contains (AllByRecursion (λ x. x < MAX_LABELS)) images (λ image held.
    AllByRecursion-from_contains (λ x. x < MAX_LABELS) image (λ x at. held_low active image x is (tells.0 t image held) at))

-- each set of the maximal rows is among those that occur
pub occurs-listed : (before : NamedProblem) (rows : List (List (List ℕ))) → rows ≡ max_rows before.passive (length before.names) → (set : List ℕ) → OccursInRows rows set → Contains (sets_in (length before.names) rows) set
occurs-listed before rows maximal set (row, held, at) =
    let n = length before.names in
    subst (λ (m : List (List (List ℕ))). Contains (sets_in n m) set) (sym maximal)
    (max_sets-row before.passive n row (subst (λ (m : List (List (List ℕ))). Contains m row) maximal held) set at)

pub by_row-test : (before : NamedProblem) (passive given : Constraint) (rows : List (List (List ℕ))) (images : List (List ℕ)) (r : Bool) → rows ≡ max_rows before.passive (length before.names) → given ≡ before.active
    → ((sets : List (List ℕ)) → ((set : List ℕ) → OccursInRows rows set → Contains sets set) → IsTrue r ↔ KeepsAllowedByRow sets rows images given passive)
    → r ≡ keep_allowed_by_row (length before.names) before.active passive rows images
by_row-test before passive given rows images r maximal same tells =
    let n = length before.names in
    let told = subst (λ (k : Constraint). IsTrue r ↔ KeepsAllowedByRow (sets_in n rows) rows images k passive) same (tells (sets_in n rows) (occurs-listed before rows maximal)) in
    let law = by_row-tells n before.active passive rows images in
    same_tests r (keep_allowed_by_row n before.active passive rows images) (λ t. law.1 (told.0 t)) (λ t. told.1 (law.0 t))

-- ---- labels of an upper step
pub filled_sets : (before : NamedProblem) (entries : List SetEntry) → list_all (λ (entry : SetEntry). is_filled before entry.set) entries ≡ list_all (is_filled before) (entry_sets entries)
filled_sets before [] = refl
filled_sets before (entry ∷ entries) = ap (λ b. is_filled before entry.set && b) (filled_sets before entries)

pub filled-nonempty : (before : NamedProblem) (entries : List SetEntry) → list_all (is_filled before) (entry_sets entries) ≡ true → AllByRecursion (λ s. 0 < length s) (entry_sets entries)
filled-nonempty before [] all = tt
filled-nonempty before (entry ∷ entries) all =
    let both = and-true (is_filled before entry.set) (list_all (is_filled before) (entry_sets entries)) all in
    let some : not (eqb (length entry.set) 0) ≡ true = (and-true (not (eqb (length entry.set) 0)) (list_all (is_label before) entry.set) both.0).0 in
    (let l : 0 < length entry.set = grind (arith, nat_tests) in l, filled-nonempty before entries both.1)

pub labels-test : (before next : NamedProblem) (entries : List SetEntry) (r all : Bool) → IsTrue r ↔ HasNextLabels (length next.names) entries
    → all ≡ list_all (λ (entry : SetEntry). is_filled before entry.set) entries → (r && all) ≡ have_labels before next entries
labels-test before next entries r all tells is =
    let labels = map (λ (entry : SetEntry). entry.label) entries in
    let filled : all ≡ list_all (is_filled before) (entry_sets entries) = is ∙ filled_sets before entries in
    same_tests (r && all) (have_labels before next entries)
    (λ t. let both = and-true r all t in
    true-and (bytes_eq labels (count_from 0 (length next.names))) (list_all (is_filled before) (entry_sets entries))
    ((bytes_eq-Decides labels (count_from 0 (length next.names))).1 (tells.0 both.0).labels) (sym filled ∙ both.1))
    (λ t. let both = and-true (bytes_eq labels (count_from 0 (length next.names))) (list_all (is_filled before) (entry_sets entries)) t in
    true-and r all
    (tells.1 (record { labels = (bytes_eq-Decides labels (count_from 0 (length next.names))).0 both.0; filled = filled-nonempty before entries both.1 }))
    (filled ∙ both.1))

-- ---- labels that no configuration may have
high_entry : (entries : List SetEntry) → list_all (λ (entry : SetEntry). ltb entry.label MAX_LABELS) entries ≡ false → (i : ℕ) × (i < length entries) × (MAX_LABELS ≤ label_at entries i)
high_entry entries low =
    let found = not_all (λ (entry : SetEntry). ltb entry.label MAX_LABELS) entries low in
    let no_entry : SetEntry = record { set = []; label = 0 } in
    let place = held-read entries found.0 no_entry (In-Contains found.0 entries found.1) in
    let test : ltb (label_at entries place.0) MAX_LABELS ≡ false = ap (λ (entry : SetEntry). ltb entry.label MAX_LABELS) place.2 ∙ found.2 in
    (place.0, place.1, (let l : MAX_LABELS ≤ label_at entries place.0 = grind (arith, nat_tests) in l))

label_there : (entries : List SetEntry) (i : ℕ) → IsRising (λ s t. number s < number t) (entry_sets entries) → i < length entries → label_of entries (get_or (entry_sets entries) i []) ≡ label_at entries i
label_there entries i rises l = ap (label_at entries) (place_of-there (entry_sets entries) i (get_or (entry_sets entries) i []) rises (sets-place entries i l) refl)

pub not_below : (active : Constraint) (rows : List (List (List ℕ))) (entries : List SetEntry) → IsConstraint MAX_LABELS active → HasRowSets rows entries
    → list_all (λ (entry : SetEntry). ltb entry.label MAX_LABELS) entries ≡ false → false ≡ keep_rows active rows entries
not_below active rows entries is sets low = go (keep_rows active rows entries) refl
  where
    go : (b : Bool) → keep_rows active rows entries ≡ b → false ≡ b
    go false e = refl
    go true e =
        let high = high_entry entries low in
        let set = get_or (entry_sets entries) high.0 [] in
        let occurs = (sets.sets set).0 (read-held (entry_sets entries) high.0 [] (sets-place entries high.0 high.1)) in
        let has = all_there _ (λ row. Has active (map (label_of entries) row)) rows (λ row. has_config-Has active (map (label_of entries) row)) e occurs.0 occurs.1 in
        let small : label_of entries set < MAX_LABELS = held_low active (map (label_of entries) occurs.0) (label_of entries set) is has (Contains-map (label_of entries) occurs.0 set occurs.2) in
        let same : label_of entries set ≡ label_at entries high.0 = label_there entries high.0 sets.ascends high.1 in
        let large : MAX_LABELS ≤ label_at entries high.0 = high.2 in
        absurd (omega (arith, small, same, large))

pub below-all : (entries : List SetEntry) → list_all (λ (entry : SetEntry). ltb entry.label MAX_LABELS) entries ≡ true → AllByRecursion (λ (entry : SetEntry). entry.label < MAX_LABELS) entries
below-all [] all = tt
below-all (entry ∷ entries) all =
    let both = and-true (ltb entry.label MAX_LABELS) (list_all (λ (entry : SetEntry). ltb entry.label MAX_LABELS) entries) all in
    let test : ltb entry.label MAX_LABELS ≡ true = both.0 in
    ((let l : entry.label < MAX_LABELS = grind (arith, nat_tests) in l), below-all entries both.1)

-- ---- labels of the entries of an upper step
pub known : (n : ℕ) (constraint given : Constraint) (entries : List SetEntry) → IsConstraint n constraint → given ≡ constraint → HasNextLabels n entries
    → AllByRecursion (AllByRecursion (λ label. label < length entries)) given.configs
known n constraint given entries is same has = known_labels n (length entries) constraint given is same (next-count entries n has)
