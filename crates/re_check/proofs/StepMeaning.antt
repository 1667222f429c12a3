-- What a step is that meets its clauses.
use Rattle.std.proofs.Common.{◌≡◌, ℕ, ◌<◌, Bool, true, false, not, List, [], ◌∷◌, length, map, refl, sym, ap, ◌∙◌, subst, arith, Option, None, Some, eqb}
use Rattle.std.proofs.lemmas.Slice.Eq.{bytes_eq-Decides, slice_eq-Decides}
use Rattle.std.specs.Bool.{Decides}
use Rattle.std.specs.Cmp.Lexicographic.{pointwise}
use Rattle.std.specs.Prelude.{Contains, filter, find, if◌then◌else◌}
use Rattle.std.specs.List.{AllByRecursion, AllZip, list_all}
use Rattle.std.specs.Str.{bytes_eq}
use Rattle.re_labels.proofs.Membership.{Contains-In, Contains-filter, Contains-filter_cases, Contains-map, Contains-map_cases, In-Contains, all-In, all-In_from}
use Rattle.re_labels.proofs.Tests.{and-true, eqb-same, eqb-true, true-and}
use Rattle.re_labels.proofs.Goodness.{Has-has_config, has_config-Has, is_allowed-IsAllowed, is_good-IsGood}
use Rattle.re_labels.specs.Constraints.{Constraint, Has, has_config}
use Rattle.re_labels.specs.GoodRows.{allowed, is_allowed, is_good, max_rows, max_sets}
use Rattle.re_problem.specs.NamedProblems.{NamedProblem, unnamed}
use Rattle.re_problem.specs.Steps.LowerMap.{by_row, by_set}
use Rattle.re_problem.specs.Steps.{BecomesByRow, IsLowerStep, IsUpper, LowerMap, SetEntry, entry_sets, label_at, label_of, set_for}
use Rattle.re_cert.specs.Bounds.{BoundStep, entries_in}
use Rattle.re_labels.proofs.ChoicesOfRows.{IsChoice-choices, choices-IsChoice}
use Rattle.re_labels.specs.Rows.{IsChoice, choices, placed}
use Rattle.re_check.proofs.RowChoices.{becomes-entry, entry, entry-becomes}
use Rattle.re_check.specs.RowEntries.{image_entries}
use Rattle.re_check.specs.StepClauses.{KeepsAllowedByRow}
use Rattle.re_labels.proofs.Before.{same_list-refl, same_list-same}
use Rattle.re_labels.specs.Lists.{same_list}
use Rattle.re_check.specs.Clauses.{are_exchanged, are_maximal, keep_allowed_by_row, labels_for, maps_allowed, maps_rows, maps_sets, meets, sets_in, step_clauses, step_fault}
use Rattle.re_check.specs.ClauseLaws.{LowerClausesLaw, UpperClausesLaw}
use Rattle.re_check.specs.declared.clause.Clause.{Clause}
use Rattle.re_check.specs.declared.clause.Clause.TheVariants.{L1, L2, L3, L4, L5, U1, U2, U3, U4}

pub exchanged-degrees : (before next : NamedProblem) → are_exchanged before next ≡ true → (next.active.degree ≡ before.passive.degree) × (next.passive.degree ≡ before.active.degree)
exchanged-degrees before next e =
    let both = and-true (eqb next.active.degree before.passive.degree) (eqb next.passive.degree before.active.degree) e in
    (eqb-true next.active.degree before.passive.degree both.0, eqb-true next.passive.degree before.active.degree both.1)

-- ---- equal lists
pub lists-Decides : (sets others : List (List ℕ)) → Decides (pointwise bytes_eq sets others) (sets ≡ others)
lists-Decides sets others = slice_eq-Decides bytes_eq-Decides sets others (pointwise bytes_eq sets others) refl

pub rows-Decides : (rows others : List (List (List ℕ))) → Decides (pointwise (pointwise bytes_eq) rows others) (rows ≡ others)
rows-Decides rows others = slice_eq-Decides lists-Decides rows others (pointwise (pointwise bytes_eq) rows others) refl

-- ---- the first of a list of tests that fails
pub all_pass : {X : Type 0} (passes : X → Bool) (xs : List X) → find (λ x. not (passes x)) xs ≡ None → AllByRecursion (λ x. passes x ≡ true) xs
all_pass passes [] none = tt
all_pass {X} passes (x ∷ xs) none = go (passes x) refl none (all_pass passes xs)
  where
    go : (b : Bool) → passes x ≡ b → (if not b then Some x else find (λ x. not (passes x)) xs) ≡ None → (find (λ x. not (passes x)) xs ≡ None → AllByRecursion (λ x. passes x ≡ true) xs) → (passes x ≡ true) × AllByRecursion (λ x. passes x ≡ true) xs
    go true e rest others = (e, others rest)
    go false e rest others = let there : Some x ≡ None = rest in absurd (cc)

pub none_fails : {X : Type 0} (passes : X → Bool) (xs : List X) → AllByRecursion (λ x. passes x ≡ true) xs → find (λ x. not (passes x)) xs ≡ None
none_fails passes [] h = refl
none_fails passes (x ∷ xs) h = rw h.0 (none_fails passes xs h.1)

-- ---- lower steps
pub all_there : {X : Type 0} (test : X → Bool) (P : X → Type 0) (xs : List X) → ((x : X) → test x ≡ true → P x) → list_all test xs ≡ true → (x : X) → Contains xs x → P x
all_there test P xs means held x at = means x (all-In test xs held x (Contains-In x xs at))

pub all_held : {X : Type 0} (test : X → Bool) (P : X → Type 0) (xs : List X) → ((x : X) → P x → test x ≡ true) → ((x : X) → Contains xs x → P x) → list_all test xs ≡ true
all_held test P xs means held = all-In_from test xs (λ x at. means x (held x (In-Contains x xs at)))

-- the labels that a set becomes are those at its places
label-becomes : (rows : List (List (List ℕ))) (images : List (List ℕ)) (set : List ℕ) (y : ℕ) → Contains (labels_for rows images set) y → BecomesByRow rows images set y
label-becomes rows images set y held =
    let (e, among, same) = Contains-map_cases (λ (f : SetEntry). f.label) (filter (λ (f : SetEntry). same_list f.set set) (image_entries rows images)) y held in
    let (there, test) = Contains-filter_cases (λ (f : SetEntry). same_list f.set set) (image_entries rows images) e among in
    subst (λ (s : List ℕ). BecomesByRow rows images s y) (same_list-same e.set set test) (subst (BecomesByRow rows images e.set) same (entry-becomes rows images e there))

becomes-label : (rows : List (List (List ℕ))) (images : List (List ℕ)) (set : List ℕ) (y : ℕ) → BecomesByRow rows images set y → Contains (labels_for rows images set) y
becomes-label rows images set y becomes =
    Contains-map (λ (f : SetEntry). f.label) (filter (λ (f : SetEntry). same_list f.set set) (image_entries rows images)) (entry set y)
    (Contains-filter (λ (f : SetEntry). same_list f.set set) (image_entries rows images) (entry set y) (becomes-entry rows images set y becomes) (same_list-refl set))

becomes-choice : (rows : List (List (List ℕ))) (images : List (List ℕ)) (sets : List (List ℕ)) (labels : List ℕ) → AllZip (BecomesByRow rows images) sets labels → IsChoice labels (map (labels_for rows images) sets)
becomes-choice rows images [] [] h = h
becomes-choice rows images [] (y ∷ labels) h = absurd h
becomes-choice rows images (set ∷ sets) [] h = absurd h
becomes-choice rows images (set ∷ sets) (y ∷ labels) h = (becomes-label rows images set y h.0, becomes-choice rows images sets labels h.1)

choice-becomes : (rows : List (List (List ℕ))) (images : List (List ℕ)) (sets : List (List ℕ)) (labels : List ℕ) → IsChoice labels (map (labels_for rows images) sets) → AllZip (BecomesByRow rows images) sets labels
choice-becomes rows images [] [] h = h
choice-becomes rows images [] (y ∷ labels) h = absurd h
choice-becomes rows images (set ∷ sets) [] h = absurd h
choice-becomes rows images (set ∷ sets) (y ∷ labels) h = (label-becomes rows images set y h.0, choice-becomes rows images sets labels h.1)

-- the test by rows is the fact
pub by_row-tells : (n : ℕ) (before passive : Constraint) (rows : List (List (List ℕ))) (images : List (List ℕ))
    → (keep_allowed_by_row n before passive rows images ≡ true → KeepsAllowedByRow (sets_in n rows) rows images before passive) × (KeepsAllowedByRow (sets_in n rows) rows images before passive → keep_allowed_by_row n before passive rows images ≡ true)
by_row-tells n before passive rows images = (to, back)
  where
    to : keep_allowed_by_row n before passive rows images ≡ true → KeepsAllowedByRow (sets_in n rows) rows images before passive
    to test places labels held become =
        let inner = all_there (λ places. list_all (has_config passive) (choices (map (labels_for rows images) (placed (sets_in n rows) places)))) (λ places. list_all (has_config passive) (choices (map (labels_for rows images) (placed (sets_in n rows) places))) ≡ true)
        (allowed before (sets_in n rows) before.degree) (λ places t. t) test places held in
        all_there (has_config passive) (Has passive) (choices (map (labels_for rows images) (placed (sets_in n rows) places))) (has_config-Has passive) inner labels
        (choices-IsChoice (map (labels_for rows images) (placed (sets_in n rows) places)) labels (becomes-choice rows images (placed (sets_in n rows) places) labels become))

    back : KeepsAllowedByRow (sets_in n rows) rows images before passive → keep_allowed_by_row n before passive rows images ≡ true
    back kept = all_held (λ places. list_all (has_config passive) (choices (map (labels_for rows images) (placed (sets_in n rows) places)))) (λ places. (labels : List ℕ) → AllZip (BecomesByRow rows images) (placed (sets_in n rows) places) labels → Has passive labels)
        (allowed before (sets_in n rows) before.degree)
        (λ places each. all_held (has_config passive) (Has passive) (choices (map (labels_for rows images) (placed (sets_in n rows) places))) (Has-has_config passive)
        (λ labels chosen. each labels (choice-becomes rows images (placed (sets_in n rows) places) labels (IsChoice-choices (map (labels_for rows images) (placed (sets_in n rows) places)) labels chosen))))
        (λ places held labels become. kept places labels held become)

module _ (before next : NamedProblem) (rows : List (List (List ℕ))) where
  lower_meant : (map : LowerMap) → are_exchanged before next ≡ true → are_maximal before rows ≡ true → maps_sets before rows map ≡ true → maps_rows next.active rows map ≡ true → maps_allowed before next.passive rows map ≡ true
      → IsLowerStep (unnamed before) (unnamed next) rows map
  lower_meant (by_set entries) degrees maximal sets held allowed =
      let both = and-true (eqb next.active.degree before.passive.degree) (eqb next.passive.degree before.active.degree) degrees in
      let rows_are : rows ≡ max_rows before.passive (length before.names) = (rows-Decides rows (max_rows before.passive (length before.names))).0 maximal in
      let sets_are : entry_sets entries ≡ sets_in (length before.names) rows = (lists-Decides (entry_sets entries) (sets_in (length before.names) rows)).0 sets in
      record {
        active_degree = eqb-true next.active.degree before.passive.degree both.0;
        passive_degree = eqb-true next.passive.degree before.active.degree both.1;
        maximal = rows_are;
        sets = sets_are ∙ ap (sets_in (length before.names)) rows_are;
        active = all_there _ (λ row. Has next.active (map (label_of entries) row)) rows (λ row. has_config-Has next.active (map (label_of entries) row)) held;
        passive = all_there _ (λ places. Has next.passive (map (label_at entries) places)) _ (λ places. has_config-Has next.passive (map (label_at entries) places)) allowed;
      }
  lower_meant (by_row images) degrees maximal sets held allowed =
      let both = and-true (eqb next.active.degree before.passive.degree) (eqb next.passive.degree before.active.degree) degrees in
      let rows_are : rows ≡ max_rows before.passive (length before.names) = (rows-Decides rows (max_rows before.passive (length before.names))).0 maximal in
      record {
        active_degree = eqb-true next.active.degree before.passive.degree both.0;
        passive_degree = eqb-true next.passive.degree before.active.degree both.1;
        maximal = rows_are;
        count = eqb-true (length images) (length rows) sets;
        active = all_there _ (Has next.active) images (has_config-Has next.active) held;
        passive = subst (λ (s : List (List ℕ)). KeepsAllowedByRow s rows images before.active next.passive) (ap (sets_in (length before.names)) rows_are) ((by_row-tells (length before.names) before.active next.passive rows images).0 allowed);
      }

  lower_met : (map : LowerMap) → IsLowerStep (unnamed before) (unnamed next) rows map
      → (are_exchanged before next ≡ true) × (are_maximal before rows ≡ true) × (maps_sets before rows map ≡ true) × (maps_rows next.active rows map ≡ true) × (maps_allowed before next.passive rows map ≡ true)
  lower_met (by_set entries) step =
      let n = length before.names in
      let sets_are : entry_sets entries ≡ sets_in n rows = step.sets ∙ ap (sets_in n) (sym step.maximal) in (
        true-and _ _ (ap (λ d. eqb d before.passive.degree) step.active_degree ∙ eqb-same before.passive.degree) (ap (λ d. eqb d before.active.degree) step.passive_degree ∙ eqb-same before.active.degree),
        (rows-Decides rows (max_rows before.passive n)).1 step.maximal,
        (lists-Decides (entry_sets entries) (sets_in n rows)).1 sets_are,
        all_held _ (λ row. Has next.active (map (label_of entries) row)) rows (λ row. Has-has_config next.active (map (label_of entries) row)) step.active,
        all_held _ (λ places. Has next.passive (map (label_at entries) places)) _ (λ places. Has-has_config next.passive (map (label_at entries) places)) step.passive,
      )
  lower_met (by_row images) step =
      let n = length before.names in (
        true-and _ _ (ap (λ d. eqb d before.passive.degree) step.active_degree ∙ eqb-same before.passive.degree) (ap (λ d. eqb d before.active.degree) step.passive_degree ∙ eqb-same before.active.degree),
        (rows-Decides rows (max_rows before.passive n)).1 step.maximal,
        ap (λ d. eqb d (length rows)) step.count ∙ eqb-same (length rows),
        all_held _ (Has next.active) images (Has-has_config next.active) step.active,
        (by_row-tells n before.active next.passive rows images).1 (subst (λ (s : List (List ℕ)). KeepsAllowedByRow s rows images before.active next.passive) (ap (sets_in n) (sym step.maximal)) step.passive),
      )

pub lower_clauses : LowerClausesLaw
lower_clauses before s lower =
    let clauses : step_clauses s ≡ L1 ∷ L2 ∷ L3 ∷ L4 ∷ L5 ∷ [] = rw lower refl in (
      λ none.
          let (degrees, (maximal, (sets, (rows, (allowed, u))))) = subst (AllByRecursion (λ clause. meets before s clause ≡ true)) clauses (all_pass (meets before s) (step_clauses s) none) in
          lower_meant before s.next s.rows s.map degrees maximal sets rows allowed,
      λ step.
          let (degrees, maximal, sets, rows, allowed) = lower_met before s.next s.rows s.map step in
          none_fails (meets before s) (step_clauses s) (subst (AllByRecursion (λ clause. meets before s clause ≡ true)) (sym clauses) (degrees, (maximal, (sets, (rows, (allowed, tt)))))),
    )

-- ---- upper steps
upper_meant : (before : NamedProblem) (s : BoundStep) → AllByRecursion (λ clause. meets before s clause ≡ true) (U1 ∷ U2 ∷ U3 ∷ U4 ∷ []) → IsUpper (unnamed before) (unnamed s.next) (set_for (entries_in s.map))
upper_meant before s (degrees, (labels, (good, (allowed, u)))) =
    let both = and-true (eqb s.next.active.degree before.passive.degree) (eqb s.next.passive.degree before.active.degree) degrees in
    record {
      active_degree = eqb-true s.next.active.degree before.passive.degree both.0;
      passive_degree = eqb-true s.next.passive.degree before.active.degree both.1;
      good = all_there _ _ s.next.active.configs (λ config. is_good-IsGood before.passive (map (set_for (entries_in s.map)) config)) good;
      choice = all_there _ _ s.next.passive.configs (λ config. is_allowed-IsAllowed before.active (map (set_for (entries_in s.map)) config)) allowed;
    }

pub upper_clauses : UpperClausesLaw
upper_clauses before s upper none =
    let clauses : step_clauses s ≡ U1 ∷ U2 ∷ U3 ∷ U4 ∷ [] = rw upper refl in
    upper_meant before s (subst (AllByRecursion (λ clause. meets before s clause ≡ true)) clauses (all_pass (meets before s) (step_clauses s) none))
