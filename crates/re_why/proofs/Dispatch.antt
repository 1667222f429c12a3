-- The first clause that a step fails: something shows it.
use Rattle.std.proofs.Common.{◌≡◌, ℕ, ◌<◌, ◌≤◌, Bool, true, false, eqb, not, ◌&&◌, List, [], ◌∷◌, length, map, refl, sym, ap, ◌∙◌, subst, arith, Some, None, true≢false}
use Rattle.std.specs.Prelude.{Contains, find, if◌then◌else◌, nat_le, nat_lt}
use Rattle.std.specs.List.{AllByRecursion, list_all}
use Rattle.std.specs.Str.{bytes_eq}
use Rattle.std.proofs.lemmas.Bool.Decides.{nat_tests}
use Rattle.std.proofs.lemmas.Slice.Eq.{bytes_eq-Decides}
use Rattle.re_labels.proofs.Membership.{Contains-In, In-Contains, all-In}
use Rattle.re_labels.proofs.Tests.{and-true, eqb-same, eqb-true, not-true, true-and}
use Rattle.re_labels.specs.Lists.{count_from}
use Rattle.re_labels.specs.Sets.{IsLabelSet}
use Rattle.re_labels.specs.declared.TheConstants.{MAX_LABELS}
use Rattle.re_labels.specs.Rows.{IsRow}
use Rattle.re_labels.specs.declared.TheConstants.{MAX_ROWS}
use Rattle.re_labels.proofs.Goodness.{Has-has_config, IsAllowed-is_allowed, IsGood-is_good}
use Rattle.re_labels.specs.Constraints.{Has, IsConstraint, has_config}
use Rattle.re_labels.specs.GoodRows.{IsAllowed, IsGood, allowed, max_rows, max_sets}
use Rattle.re_problem.proofs.FedLines.{unnot}
use Rattle.re_problem.specs.NamedProblems.{IsNamedProblem, NamedProblem}
use Rattle.re_problem.specs.Steps.{LowerMap, SetEntry, entry_sets, label_at, label_of, set_for}
use Rattle.re_problem.specs.Steps.LowerMap.{by_row, by_set}
use Rattle.re_cert.proofs.KnownEntries.{entries-fit}
use Rattle.re_cert.specs.Bounds.{BoundStep, entries_in, entry_fits, image_fits, is_label, kind_fits, map_fits, row_fits, step_fits}
use Rattle.re_cert.specs.declared.certificate.Kind.{Kind}
use Rattle.re_check.proofs.AllowedImages.{keeps_allowed_law}
use Rattle.re_check.proofs.RowChoices.{keeps_allowed_by_row_law}
use Rattle.re_check.proofs.RowSets.{row_sets_law}
use Rattle.re_check.specs.StepClauses.{HasNextLabels, HasRowSets}
use Rattle.re_check.proofs.StepMeaning.{all_held, by_row-tells, exchanged-degrees, lists-Decides, rows-Decides}
use Rattle.re_check.specs.Clauses.{are_allowed, are_exchanged, are_good, are_maximal, have_labels, have_row_sets, is_filled, maps_allowed, maps_rows, maps_sets, meets, sets_in, step_clauses, step_fault}
use Rattle.re_check.specs.declared.clause.Clause.{Clause}
use Rattle.re_check.specs.declared.clause.Clause.TheVariants.{Back, End, L1, L2, L3, L4, L5, U1, U2, U3, U4}
use Rattle.re_check.proofs.StepTests.{occurs-listed, filled_sets, filled-nonempty}
use Rattle.re_texts.proofs.FittingParts.{labels_named}
use Rattle.re_why.proofs.Found.{found_passes}
use Rattle.re_why.proofs.Maps.{map_witness_law}
use Rattle.re_why.proofs.Rows.{row_witness_law}
use Rattle.re_why.proofs.Uppers.{label_witness_law, upper_witness_law}
use Rattle.re_why.specs.Finding.{AreBelow, bad_witness, image_witness, label_witness, lost_witness, row_witness, set_witness, shut_witness, step_witness}
use Rattle.re_why.specs.Laws.{Gives, HasSets, HoldsChoices, HoldsRows}
use Rattle.re_why.specs.Witnesses.{AreOtherDegrees, ShowsBad, ShowsChoice, ShowsImage, ShowsLabels, ShowsRows, ShowsSets, ShowsShut, ShowsStep}
use Rattle.re_why.specs.declared.witness.Witness.TheVariants.{Degrees}

-- ---- the first of a list
skip : (p : Clause → Bool) (a c : Clause) (rest : List Clause) → find p (a ∷ rest) ≡ Some c → (a ≡ c → ⊥) → (p a ≡ false) × (find p rest ≡ Some c)
skip p a c rest e apart = go (p a) refl e
  where
    go : (b : Bool) → p a ≡ b → (if b then Some a else find p rest) ≡ Some c → (p a ≡ false) × (find p rest ≡ Some c)
    go true b e = absurd (apart (let same : Some a ≡ Some c = e in cc))
    go false b e = (b, e)

-- what is found fails its test
pub fault-fails : (before : NamedProblem) (s : BoundStep) (c : Clause) → step_fault before s ≡ Some c → meets before s c ≡ false
fault-fails before s c e = not-true (meets before s c) (found_passes (λ clause. not (meets before s clause)) (step_clauses s) c (sym e)).0

-- and is one of the step's clauses
pub fault-among : (before : NamedProblem) (s : BoundStep) (c : Clause) → step_fault before s ≡ Some c → Contains (step_clauses s) c
fault-among before s c e = In-Contains c (step_clauses s) (found_passes (λ clause. not (meets before s clause)) (step_clauses s) c (sym e)).1

-- ---- what holds before a clause
module _ (before : NamedProblem) (s : BoundStep) where
  abbrev test : Clause → Bool
  test clause = not (meets before s clause)

  lower-first : s.lower ≡ true → (c : Clause) → step_fault before s ≡ Some c → find test (L1 ∷ L2 ∷ L3 ∷ L4 ∷ L5 ∷ []) ≡ Some c
  lower-first lower c e = (λ i. find test (if sym lower i then L1 ∷ L2 ∷ L3 ∷ L4 ∷ L5 ∷ [] else U1 ∷ U2 ∷ U3 ∷ U4 ∷ [])) ∙ e

  upper-first : s.lower ≡ false → (c : Clause) → step_fault before s ≡ Some c → find test (U1 ∷ U2 ∷ U3 ∷ U4 ∷ []) ≡ Some c
  upper-first upper c e = (λ i. find test (if sym upper i then L1 ∷ L2 ∷ L3 ∷ L4 ∷ L5 ∷ [] else U1 ∷ U2 ∷ U3 ∷ U4 ∷ [])) ∙ e

  pub before-L3 : s.lower ≡ true → step_fault before s ≡ Some L3 → are_maximal before s.rows ≡ true
  before-L3 lower e =
      let one = skip test L1 L3 (L2 ∷ L3 ∷ L4 ∷ L5 ∷ []) (lower-first lower L3 e) (λ same. cc) in
      let two = skip test L2 L3 (L3 ∷ L4 ∷ L5 ∷ []) one.1 (λ same. cc) in
      unnot (meets before s L2) two.0

  pub before-L4 : s.lower ≡ true → step_fault before s ≡ Some L4 → (are_maximal before s.rows ≡ true) × (meets before s L3 ≡ true)
  before-L4 lower e =
      let one = skip test L1 L4 (L2 ∷ L3 ∷ L4 ∷ L5 ∷ []) (lower-first lower L4 e) (λ same. cc) in
      let two = skip test L2 L4 (L3 ∷ L4 ∷ L5 ∷ []) one.1 (λ same. cc) in
      let three = skip test L3 L4 (L4 ∷ L5 ∷ []) two.1 (λ same. cc) in
      (unnot (meets before s L2) two.0, unnot (meets before s L3) three.0)

  pub before-L5 : s.lower ≡ true → step_fault before s ≡ Some L5 → (are_exchanged before s.next ≡ true) × (are_maximal before s.rows ≡ true)
  before-L5 lower e =
      let one = skip test L1 L5 (L2 ∷ L3 ∷ L4 ∷ L5 ∷ []) (lower-first lower L5 e) (λ same. cc) in
      let two = skip test L2 L5 (L3 ∷ L4 ∷ L5 ∷ []) one.1 (λ same. cc) in
      (unnot (meets before s L1) one.0, unnot (meets before s L2) two.0)

  pub before-U3 : s.lower ≡ false → step_fault before s ≡ Some U3 → (are_exchanged before s.next ≡ true) × (meets before s U2 ≡ true)
  before-U3 upper e =
      let one = skip test U1 U3 (U2 ∷ U3 ∷ U4 ∷ []) (upper-first upper U3 e) (λ same. cc) in
      let two = skip test U2 U3 (U3 ∷ U4 ∷ []) one.1 (λ same. cc) in
      (unnot (meets before s U1) one.0, unnot (meets before s U2) two.0)

  pub before-U4 : s.lower ≡ false → step_fault before s ≡ Some U4 → (are_exchanged before s.next ≡ true) × (meets before s U2 ≡ true)
  before-U4 upper e =
      let one = skip test U1 U4 (U2 ∷ U3 ∷ U4 ∷ []) (upper-first upper U4 e) (λ same. cc) in
      let two = skip test U2 U4 (U3 ∷ U4 ∷ []) one.1 (λ same. cc) in
      (unnot (meets before s U1) one.0, unnot (meets before s U2) two.0)

-- ---- what fits
pub rows-degree : (before : NamedProblem) (rows : List (List (List ℕ))) → list_all (row_fits before) rows ≡ true → AllByRecursion (λ row. length row ≡ before.passive.degree) rows
rows-degree before [] e = tt
rows-degree before (row ∷ rows) e =
    let both = and-true (row_fits before row) (list_all (row_fits before) rows) e in
    let inner = and-true (eqb (length row) before.passive.degree) (list_all (list_all (is_label before)) row) both.0 in
    (eqb-true (length row) before.passive.degree inner.0, rows-degree before rows both.1)

pub labels-below : (n most : ℕ) (xs : List ℕ) → n ≤ most → list_all (λ x. nat_lt x n) xs ≡ true → AllByRecursion (λ x. x < most) xs
labels-below n most [] few e = tt
labels-below n most (x ∷ xs) few e =
    let both = and-true (nat_lt x n) (list_all (λ x. nat_lt x n) xs) e in
    let passes : nat_lt x n ≡ true = both.0 in
    let l : x < n = grind (arith, nat_tests) in
    (omega (arith, l, few), labels-below n most xs few both.1)

-- the labels of the sets of a row that fits are labels of the problem
pub row-sets : (before : NamedProblem) (row : List (List ℕ)) → row_fits before row ≡ true → AllByRecursion (AllByRecursion (λ x. x < length before.names)) row
row-sets before row fits = go row (and-true (eqb (length row) before.passive.degree) (list_all (list_all (is_label before)) row) fits).1
  where
    go : (row : List (List ℕ)) → list_all (list_all (is_label before)) row ≡ true → AllByRecursion (AllByRecursion (λ x. x < length before.names)) row
    go [] e = tt
    go (set ∷ row) e = let both = and-true (list_all (is_label before) set) (list_all (list_all (is_label before)) row) e in (labels-below (length before.names) (length before.names) set (omega arith) both.0, go row both.1)

pub map-below : (before next : NamedProblem) (m : LowerMap) → length next.names ≤ MAX_LABELS → map_fits before next m ≡ true → AreBelow m
map-below before next (by_set entries) few e = go entries e
  where
    go : (entries : List SetEntry) → list_all (entry_fits before next) entries ≡ true → AllByRecursion (λ (entry : SetEntry). entry.label < MAX_LABELS) entries
    go [] e = tt
    go (entry ∷ entries) e =
        let both = and-true (entry_fits before next entry) (list_all (entry_fits before next) entries) e in
        let passes : nat_lt entry.label (length next.names) ≡ true = (and-true (list_all (is_label before) entry.set) (is_label next entry.label) both.0).1 in
        let l : entry.label < length next.names = grind (arith, nat_tests) in
        (omega (arith, l, few), go entries both.1)
map-below before next (by_row images) few e = go images (and-true (nat_le (length images) MAX_ROWS) (list_all (image_fits before next) images) e).1
  where
    go : (images : List (List ℕ)) → list_all (image_fits before next) images ≡ true → AllByRecursion (AllByRecursion (λ x. x < MAX_LABELS)) images
    go [] e = tt
    go (image ∷ images) e =
        let both = and-true (image_fits before next image) (list_all (image_fits before next) images) e in
        let inner = and-true (eqb (length image) before.passive.degree) (list_all (is_label next) image) both.0 in
        (labels-below (length next.names) MAX_LABELS image few inner.1, go images both.1)

pub next-labels : (before next : NamedProblem) (entries : List SetEntry) → have_labels before next entries ≡ true → HasNextLabels (length next.names) entries
next-labels before next entries e =
    let labels = map (λ (entry : SetEntry). entry.label) entries in
    let both = and-true (bytes_eq labels (count_from 0 (length next.names))) (list_all (is_filled before) (entry_sets entries)) e in
    record { labels = (bytes_eq-Decides labels (count_from 0 (length next.names))).0 both.0; filled = filled-nonempty before entries both.1 }

fits-filled : (before next : NamedProblem) (entries : List SetEntry) → list_all (entry_fits before next) entries ≡ true → AllByRecursion (λ s. 0 < length s) (entry_sets entries)
    → list_all (λ (entry : SetEntry). is_filled before entry.set) entries ≡ true
fits-filled before next [] e h = refl
fits-filled before next (entry ∷ entries) e h =
    let both = and-true (entry_fits before next entry) (list_all (entry_fits before next) entries) e in
    let inside = (and-true (list_all (is_label before) entry.set) (is_label next entry.label) both.0).0 in
    let l : 0 < length entry.set = h.0 in
    let some : not (eqb (length entry.set) 0) ≡ true = grind (arith, nat_tests) in
    true-and (is_filled before entry.set) (list_all (λ (entry : SetEntry). is_filled before entry.set) entries) (true-and (not (eqb (length entry.set) 0)) (list_all (is_label before) entry.set) some inside) (fits-filled before next entries both.1 h.1)

-- ---- the rows
row-is : (before : NamedProblem) (row : List (List ℕ)) → row_fits before row ≡ true → IsRow (length row) MAX_LABELS row → IsRow before.passive.degree (length before.names) row
row-is before row fits is =
    let both = and-true (eqb (length row) before.passive.degree) (list_all (list_all (is_label before)) row) fits in
    record {
      count = eqb-true (length row) before.passive.degree both.0;
      sets = go row both.1 is.sets;
      ascends = is.ascends;
    }
  where
    go : (row : List (List ℕ)) → list_all (list_all (is_label before)) row ≡ true → AllByRecursion (λ s. IsLabelSet MAX_LABELS s × (0 < length s)) row → AllByRecursion (λ s. IsLabelSet (length before.names) s × (0 < length s)) row
    go [] e h = tt
    go (set ∷ row) e h =
        let both = and-true (list_all (is_label before) set) (list_all (list_all (is_label before)) row) e in
        let less : length before.names ≤ length before.names = omega arith in
        (((h.0.0.0, labels-below (length before.names) (length before.names) set less both.0), h.0.1), go row both.1 h.1)

rows-are : (before : NamedProblem) (rows : List (List (List ℕ))) → list_all (row_fits before) rows ≡ true → ((row : List (List ℕ)) → Contains rows row → IsRow (length row) MAX_LABELS row)
    → (row : List (List ℕ)) → Contains rows row → IsRow before.passive.degree (length before.names) row
rows-are before rows fits are row held = row-is before row (all-In (row_fits before) rows fits row (Contains-In row rows held)) (are row held)

-- ---- each clause
other-degrees : (before next : NamedProblem) → are_exchanged before next ≡ false → AreOtherDegrees before next (Degrees next.active.degree next.passive.degree)
other-degrees before next fails =
    (refl, refl, λ both. true≢false (sym (true-and (eqb next.active.degree before.passive.degree) (eqb next.passive.degree before.active.degree) (subst (λ d. eqb next.active.degree d ≡ true) both.0 (eqb-same next.active.degree)) (subst (λ d. eqb next.passive.degree d ≡ true) both.1 (eqb-same next.passive.degree))) ∙ fails))

shown-L2 : (before : NamedProblem) (rows : List (List (List ℕ))) → ((row : List (List ℕ)) → Contains rows row → IsRow before.passive.degree (length before.names) row) → are_maximal before rows ≡ false
    → Gives (row_witness before.passive (length before.names) rows) (ShowsRows before.passive (length before.names) rows)
shown-L2 before rows are fails = row_witness_law before.passive (length before.names) rows are (λ same. true≢false (sym ((rows-Decides rows (max_rows before.passive (length before.names))).1 same) ∙ fails))

shown-L3 : (before : NamedProblem) (next : NamedProblem) (rows : List (List (List ℕ))) (m : LowerMap) → rows ≡ max_rows before.passive (length before.names) → maps_sets before rows m ≡ false → Gives (set_witness rows m) (ShowsSets rows m)
shown-L3 before next rows m maximal fails = (map_witness_law before.active next.active next.passive rows m).0 (isnt m fails)
  where
    isnt : (m : LowerMap) → maps_sets before rows m ≡ false → HasSets rows m → ⊥
    isnt (by_set entries) fails has =
        let n = length before.names in
        let sets : sets_in n rows ≡ max_sets before.passive n = ap (sets_in n) maximal in
        true≢false (sym ((lists-Decides (entry_sets entries) (sets_in n rows)).1 ((row_sets_law before.passive n entries).0 (subst (λ (r : List (List (List ℕ))). HasRowSets r entries) maximal has) ∙ sym sets)) ∙ fails)
    isnt (by_row images) fails has = true≢false (sym (subst (λ n. eqb (length images) n ≡ true) (sym has) (eqb-same (length images))) ∙ fails)

shown-L4 : (before next : NamedProblem) (rows : List (List (List ℕ))) (m : LowerMap) → maps_rows next.active rows m ≡ false → Gives (image_witness next.active rows m) (ShowsImage next.active rows m)
shown-L4 before next rows m fails = (map_witness_law before.active next.active next.passive rows m).1 (isnt m fails)
  where
    isnt : (m : LowerMap) → maps_rows next.active rows m ≡ false → HoldsRows next.active rows m → ⊥
    isnt (by_set entries) fails has = true≢false (sym (all_held _ (λ row. Has next.active (map (label_of entries) row)) rows (λ row. Has-has_config next.active (map (label_of entries) row)) has) ∙ fails)
    isnt (by_row images) fails has = true≢false (sym (all_held (has_config next.active) (Has next.active) images (Has-has_config next.active) has) ∙ fails)

shown-L5 : (before next : NamedProblem) (rows : List (List (List ℕ))) (m : LowerMap) → IsConstraint (length before.names) before.active → rows ≡ max_rows before.passive (length before.names) → maps_allowed before next.passive rows m ≡ false
    → Gives (lost_witness before.active next.passive rows m) (ShowsChoice before.active next.passive rows m)
shown-L5 before next rows m is maximal fails = (map_witness_law before.active next.active next.passive rows m).2 (isnt m fails)
  where
    isnt : (m : LowerMap) → maps_allowed before next.passive rows m ≡ false → HoldsChoices before.active next.passive rows m → ⊥
    isnt (by_set entries) fails has =
        true≢false (sym (all_held _ (λ places. Has next.passive (map (label_at entries) places)) (allowed before.active (entry_sets entries) before.active.degree) (λ places. Has-has_config next.passive (map (label_at entries) places))
        ((keeps_allowed_law (length before.names) before.active next.passive entries is).1 has)) ∙ fails)
    isnt (by_row images) fails has =
        let n = length before.names in
        true≢false (sym ((by_row-tells n before.active next.passive rows images).1 ((keeps_allowed_by_row_law n before.active next.passive (sets_in n rows) rows images is (occurs-listed before rows maximal)).1 has)) ∙ fails)

shown-U2 : (before next : NamedProblem) (entries : List SetEntry) → list_all (entry_fits before next) entries ≡ true → have_labels before next entries ≡ false → Gives (label_witness (length next.names) entries) (ShowsLabels (length next.names) entries)
shown-U2 before next entries fits fails =
    label_witness_law (length next.names) entries (labels_named before next entries fits)
    (λ has. true≢false (sym (true-and (bytes_eq (map (λ (entry : SetEntry). entry.label) entries) (count_from 0 (length next.names))) (list_all (is_filled before) (entry_sets entries))
    ((bytes_eq-Decides (map (λ (entry : SetEntry). entry.label) entries) (count_from 0 (length next.names))).1 has.labels) (sym (filled_sets before entries) ∙ fits-filled before next entries fits has.filled)) ∙ fails))

shown-U3 : (before next : NamedProblem) (entries : List SetEntry) → IsConstraint (length next.names) next.active → are_exchanged before next ≡ true → have_labels before next entries ≡ true → are_good before.passive next.active entries ≡ false
    → Gives (bad_witness before.passive next.active entries) (ShowsBad before.passive next.active entries)
shown-U3 before next entries is degrees labels fails =
    (upper_witness_law (length next.names) before.passive next.active entries is (exchanged-degrees before next degrees).0 (next-labels before next entries labels)).0
    (λ has. true≢false (sym (all_held _ (λ config. IsGood before.passive (map (set_for entries) config)) next.active.configs (λ config. IsGood-is_good before.passive (map (set_for entries) config)) has) ∙ fails))

shown-U4 : (before next : NamedProblem) (entries : List SetEntry) → IsConstraint (length next.names) next.passive → are_exchanged before next ≡ true → have_labels before next entries ≡ true → are_allowed before.active next.passive entries ≡ false
    → Gives (shut_witness before.active next.passive entries) (ShowsShut before.active next.passive entries)
shown-U4 before next entries is degrees labels fails =
    (upper_witness_law (length next.names) before.active next.passive entries is (exchanged-degrees before next degrees).1 (next-labels before next entries labels)).1
    (λ has. true≢false (sym (all_held _ (λ config. IsAllowed before.active (map (set_for entries) config)) next.passive.configs (λ config. IsAllowed-is_allowed before.active (map (set_for entries) config)) has) ∙ fails))

-- ---- a step
pub rows-fit : (kind : Kind) (before : NamedProblem) (s : BoundStep) → step_fits kind before s ≡ true → list_all (row_fits before) s.rows ≡ true
rows-fit kind before s fits =
    (and-true (kind_fits kind s && nat_le (length s.rows) MAX_ROWS) (list_all (row_fits before) s.rows) (and-true (kind_fits kind s && nat_le (length s.rows) MAX_ROWS && list_all (row_fits before) s.rows) (map_fits before s.next s.map) fits).0).1

pub rows-few : (kind : Kind) (before : NamedProblem) (s : BoundStep) → step_fits kind before s ≡ true → length s.rows ≤ MAX_ROWS
rows-few kind before s fits =
    let few : nat_le (length s.rows) MAX_ROWS ≡ true = (and-true (kind_fits kind s) (nat_le (length s.rows) MAX_ROWS) (and-true (kind_fits kind s && nat_le (length s.rows) MAX_ROWS) (list_all (row_fits before) s.rows) (and-true (kind_fits kind s && nat_le (length s.rows) MAX_ROWS && list_all (row_fits before) s.rows) (map_fits before s.next s.map) fits).0).0).1 in
    grind (arith, nat_tests)

pub map-fits : (kind : Kind) (before : NamedProblem) (s : BoundStep) → step_fits kind before s ≡ true → map_fits before s.next s.map ≡ true
map-fits kind before s fits = (and-true (kind_fits kind s && nat_le (length s.rows) MAX_ROWS && list_all (row_fits before) s.rows) (map_fits before s.next s.map) fits).1

-- a clause of the other side isn't found
not-upper : (before : NamedProblem) (s : BoundStep) (c : Clause) → find (test before s) (L1 ∷ L2 ∷ L3 ∷ L4 ∷ L5 ∷ []) ≡ Some c → (L1 ≡ c → ⊥) → (L2 ≡ c → ⊥) → (L3 ≡ c → ⊥) → (L4 ≡ c → ⊥) → (L5 ≡ c → ⊥) → ⊥
not-upper before s c e one two three four five =
    let p = test before s in
    let a = (skip p L1 c (L2 ∷ L3 ∷ L4 ∷ L5 ∷ []) e one).1 in
    let b = (skip p L2 c (L3 ∷ L4 ∷ L5 ∷ []) a two).1 in
    let d = (skip p L3 c (L4 ∷ L5 ∷ []) b three).1 in
    let f = (skip p L4 c (L5 ∷ []) d four).1 in
    let g : None ≡ Some c = (skip p L5 c [] f five).1 in
    cc

not-lower : (before : NamedProblem) (s : BoundStep) (c : Clause) → find (test before s) (U1 ∷ U2 ∷ U3 ∷ U4 ∷ []) ≡ Some c → (U1 ≡ c → ⊥) → (U2 ≡ c → ⊥) → (U3 ≡ c → ⊥) → (U4 ≡ c → ⊥) → ⊥
not-lower before s c e one two three four =
    let p = test before s in
    let a = (skip p U1 c (U2 ∷ U3 ∷ U4 ∷ []) e one).1 in
    let b = (skip p U2 c (U3 ∷ U4 ∷ []) a two).1 in
    let d = (skip p U3 c (U4 ∷ []) b three).1 in
    let g : None ≡ Some c = (skip p U4 c [] d four).1 in
    cc

pub step-shown : (kind : Kind) (before : NamedProblem) (s : BoundStep) (c : Clause) → IsNamedProblem before → IsNamedProblem s.next → ((row : List (List ℕ)) → Contains s.rows row → IsRow (length row) MAX_LABELS row)
    → step_fits kind before s ≡ true → step_fault before s ≡ Some c → Gives (step_witness before s c) (ShowsStep before s c)
step-shown kind before s c named next rows fits fault = by_side s.lower refl c fault
  where
    fails : (c : Clause) → step_fault before s ≡ Some c → meets before s c ≡ false
    fails c e = fault-fails before s c e

    maximal : are_maximal before s.rows ≡ true → s.rows ≡ max_rows before.passive (length before.names)
    maximal e = (rows-Decides s.rows (max_rows before.passive (length before.names))).0 e

    lower : s.lower ≡ true → (c : Clause) → step_fault before s ≡ Some c → Gives (step_witness before s c) (ShowsStep before s c)
    lower low L1 e = other-degrees before s.next (fails L1 e)
    lower low L2 e = shown-L2 before s.rows (rows-are before s.rows (rows-fit kind before s fits) rows) (fails L2 e)
    lower low L3 e = shown-L3 before s.next s.rows s.map (maximal (before-L3 before s low e)) (fails L3 e)
    lower low L4 e = shown-L4 before s.next s.rows s.map (fails L4 e)
    lower low L5 e = shown-L5 before s.next s.rows s.map named.problem.active (maximal (before-L5 before s low e).1) (fails L5 e)
    lower low U1 e = other-degrees before s.next (fails U1 e)
    lower low U2 e = shown-U2 before s.next (entries_in s.map) (entries-fit before s.next s.map (map-fits kind before s fits)) (fails U2 e)
    lower low U3 e = absurd (not-upper before s U3 (lower-first before s low U3 e) (λ a. cc) (λ a. cc) (λ a. cc) (λ a. cc) (λ a. cc))
    lower low U4 e = absurd (not-upper before s U4 (lower-first before s low U4 e) (λ a. cc) (λ a. cc) (λ a. cc) (λ a. cc) (λ a. cc))
    lower low End e = absurd (true≢false (fails End e))
    lower low Back e = absurd (true≢false (fails Back e))

    upper : s.lower ≡ false → (c : Clause) → step_fault before s ≡ Some c → Gives (step_witness before s c) (ShowsStep before s c)
    upper up L1 e = other-degrees before s.next (fails L1 e)
    upper up L2 e = shown-L2 before s.rows (rows-are before s.rows (rows-fit kind before s fits) rows) (fails L2 e)
    upper up L3 e = absurd (not-lower before s L3 (upper-first before s up L3 e) (λ a. cc) (λ a. cc) (λ a. cc) (λ a. cc))
    upper up L4 e = shown-L4 before s.next s.rows s.map (fails L4 e)
    upper up L5 e = absurd (not-lower before s L5 (upper-first before s up L5 e) (λ a. cc) (λ a. cc) (λ a. cc) (λ a. cc))
    upper up U1 e = other-degrees before s.next (fails U1 e)
    upper up U2 e = shown-U2 before s.next (entries_in s.map) (entries-fit before s.next s.map (map-fits kind before s fits)) (fails U2 e)
    upper up U3 e = let (degrees, labels) = before-U3 before s up e in shown-U3 before s.next (entries_in s.map) next.problem.active degrees labels (fails U3 e)
    upper up U4 e = let (degrees, labels) = before-U4 before s up e in shown-U4 before s.next (entries_in s.map) next.problem.passive degrees labels (fails U4 e)
    upper up End e = absurd (true≢false (fails End e))
    upper up Back e = absurd (true≢false (fails Back e))

    by_side : (b : Bool) → s.lower ≡ b → (c : Clause) → step_fault before s ≡ Some c → Gives (step_witness before s c) (ShowsStep before s c)
    by_side true low c e = lower low c e
    by_side false up c e = upper up c e

-- where the images of the rows are the first fault, the entries have the sets of the rows
pub sets-at : (before : NamedProblem) (s : BoundStep) → step_fault before s ≡ Some L4 → (entries : List SetEntry) → s.map ≡ by_set entries → HasRowSets s.rows entries
sets-at before s fault entries is = go s.lower refl
  where
    go : (b : Bool) → s.lower ≡ b → HasRowSets s.rows entries
    go true low =
        let (maximal, sets) = before-L4 before s low fault in
        let n = length before.names in
        let rows_are : s.rows ≡ max_rows before.passive n = (rows-Decides s.rows (max_rows before.passive n)).0 maximal in
        let met : have_row_sets before s.rows entries ≡ true = subst (λ (k : LowerMap). maps_sets before s.rows k ≡ true) is sets in
        let sets_are : entry_sets entries ≡ sets_in n s.rows = (lists-Decides (entry_sets entries) (sets_in n s.rows)).0 met in
        subst (λ (r : List (List (List ℕ))). HasRowSets r entries) (sym rows_are) ((row_sets_law before.passive n entries).1 (sets_are ∙ ap (sets_in n) rows_are))
    go false up = absurd (not-lower before s L4 (upper-first before s up L4 fault) (λ a. cc) (λ a. cc) (λ a. cc) (λ a. cc))

-- what the calls for each clause ask
module _ (kind : Kind) (before next : NamedProblem) (rows : List (List (List ℕ))) (m : LowerMap) where
  abbrev lower_step : BoundStep
  lower_step = record { lower = true; next = next; rows = rows; map = m }

  pub few-rows : step_fits kind before (record { lower = true; next = next; rows = rows; map = m }) ≡ true → length rows ≤ MAX_ROWS
  few-rows = rows-few kind before lower_step

  pub sets-before : step_fault before (record { lower = true; next = next; rows = rows; map = m }) ≡ Some L4 → (entries : List SetEntry) → m ≡ by_set entries → HasRowSets rows entries
  sets-before = sets-at before lower_step
