-- The map that sends each set of a derived problem to its own label.
use Rattle.std.proofs.Common.{◌≡◌, ℕ, zero, suc, ◌+◌, ◌<◌, Bool, true, false, List, [], ◌∷◌, ◌++◌, length, map, take, get_or, Some, refl, sym, ap, ◌∙◌, subst, arith, ◌≤◌, ltb, None, Option}
use Rattle.std.specs.Prelude.{if◌then◌else◌}
use Rattle.re_labels.specs.Lists.{count_from}
use Rattle.re_problem.specs.NamedProblems.{NamedProblem, unnamed}
use Rattle.re_problem.specs.Steps.{LowerMap, SetEntry, entry_sets}
use Rattle.re_problem.specs.Steps.LowerMap.{by_row, by_set}
use Rattle.re_labels.specs.Constraints.{Constraint}
use Rattle.re_labels.specs.GoodRows.{max_rows, max_sets}
use Rattle.re_check.proofs.RowSets.{row_sets_law}
use Rattle.re_check.specs.StepClauses.{HasRowSets}
use Rattle.re_changes.specs.Changes.{unchanged}
use Rattle.re_step.specs.Derivations.{Derivation, derivation, named_derived, step_limit}
use Rattle.re_step.specs.declared.derivation.StepLimit.TheVariants.{Labels, Rows}
use Rattle.re_labels.specs.declared.TheConstants.{MAX_LABELS}
use Rattle.re_labels.specs.declared.TheConstants.{MAX_ROWS}
use Rattle.re_problem.specs.Problems.{Problem}
use Rattle.std.proofs.lemmas.Bool.Decides.{nat_tests}
use Rattle.re_search.proofs.LowerSteps.{names-sets}
use Rattle.re_search.specs.Nodes.{entries_of}
use Rattle.re_cert.specs.Bounds.{BoundStep}
use Rattle.re_shaping.specs.RowForms.{map_by_rows, row_form, step_by_rows}
use Rattle.re_shaping.specs.Stepped.{derived_step, own_entries}

own-entries : (k : ℕ) (sets : List (List ℕ)) → own_entries k sets ≡ entries_of sets (map (λ (label : ℕ). Some label) (count_from k (length sets)))
own-entries k [] = refl
own-entries k (set ∷ sets) = ap (λ entries. record { set = set; label = k } ∷ entries) (own-entries (suc k) sets)

-- they are the entries of the step to the derived problem as it is
pub derived-entries : (problem : NamedProblem)
    → own_entries 0 (max_sets problem.passive (length problem.names)) ≡ entries_of (max_sets problem.passive (length problem.names)) (unchanged (named_derived (unnamed problem))).images
derived-entries problem =
    own-entries 0 (max_sets problem.passive (length problem.names))
    ∙ ap (λ n. entries_of (max_sets problem.passive (length problem.names)) (map (λ (label : ℕ). Some label) (count_from 0 n))) (sym (names-sets problem))

own-sets : (k : ℕ) (sets : List (List ℕ)) → entry_sets (own_entries k sets) ≡ sets
own-sets k [] = refl
own-sets k (set ∷ sets) = ap (λ sets. set ∷ sets) (own-sets (suc k) sets)

-- they have the sets of the maximal rows
pub own-row_sets : (constraint : Constraint) (n : ℕ) → HasRowSets (max_rows constraint n) (own_entries 0 (max_sets constraint n))
own-row_sets constraint n = (row_sets_law constraint n (own_entries 0 (max_sets constraint n))).1 (own-sets 0 (max_sets constraint n))

-- ---- one entry more
one-more : (j k : ℕ) (sets : List (List ℕ)) (set : List ℕ) → k < length sets → set ≡ get_or sets k set → own_entries j (take (suc k) sets) ≡ own_entries j (take k sets) ++ record { set = set; label = j + k } ∷ []
one-more j k [] set l at = absurd (omega arith)
one-more j zero (s ∷ sets) set l at = let n : j ≡ j + 0 = omega arith in (λ i. record { set = sym at i; label = n i } ∷ [])
one-more j (suc k) (s ∷ sets) set l at =
    let n : suc j + k ≡ j + suc k = omega arith in
    ap (λ entries. record { set = s; label = j } ∷ entries) (one-more (suc j) k sets set (omega arith) at ∙ ap (λ n. own_entries (suc j) (take k sets) ++ record { set = set; label = n } ∷ []) n)

pub entries-more : (sets : List (List ℕ)) (k : ℕ) (set : List ℕ) (entries after : List SetEntry) → k < length sets → set ≡ get_or sets k set → entries ≡ own_entries 0 (take k sets) → after ≡ entries ++ record { set = set; label = k } ∷ []
    → after ≡ own_entries 0 (take (k + 1) sets)
entries-more sets k set entries after l at so_far push =
    let n : 0 + k ≡ k = omega arith in
    let m : suc k ≡ k + 1 = omega arith in
    push ∙ ap (λ es. es ++ record { set = set; label = k } ∷ []) so_far ∙ ap (λ n. own_entries 0 (take k sets) ++ record { set = set; label = n } ∷ []) (sym n) ∙ sym (one-more 0 k sets set l at)
    ∙ ap (λ n. own_entries 0 (take n sets)) m

-- ---- few labels
none-passed : {X : Type 0} (b : Bool) (x : X) (rest : Option X) → (if b then Some x else rest) ≡ None → (b ≡ false) × (rest ≡ None)
none-passed true x rest e = let there : Some x ≡ None = e in absurd (cc)
none-passed false x rest e = (refl, e)

-- a derived problem within the limits has few labels
pub few-labels : (problem : Problem) → step_limit problem ≡ None → length (max_sets problem.passive problem.labels) ≤ MAX_LABELS
few-labels problem none =
    let rows = none-passed (ltb MAX_ROWS (length (max_rows problem.passive problem.labels))) Rows _ none in
    let labels = none-passed (ltb MAX_LABELS (length (max_sets problem.passive problem.labels))) (Labels (length (max_sets problem.passive problem.labels))) _ rows.1 in
    let e : ltb MAX_LABELS (length (max_sets problem.passive problem.labels)) ≡ false = labels.0 in
    grind (arith, nat_tests)

-- ---- the step that the program makes
abbrev pub made_step : Bool → NamedProblem → List (List (List ℕ)) → LowerMap → BoundStep
made_step lower next rows map = record { lower = lower; next = next; rows = rows; map = map }

module _ (problem : NamedProblem) (derived : Derivation) (is : derived ≡ derivation (unnamed problem)) where
  abbrev the_rows : List (List (List ℕ))
  the_rows = max_rows problem.passive (length problem.names)

  abbrev the_entries : List SetEntry
  the_entries = entries_of (max_sets problem.passive (length problem.names)) (unchanged (named_derived (unnamed problem))).images

  pub made-row_sets : (rows : List (List (List ℕ))) (sets : List (List ℕ)) (entries : List SetEntry) → rows ≡ derived.rows → sets ≡ derived.sets → entries ≡ own_entries 0 sets → HasRowSets rows entries
  made-row_sets rows sets entries rows_are sets_are entries_are =
      let same : own_entries 0 (max_sets problem.passive (length problem.names)) ≡ entries = sym (entries_are ∙ ap (own_entries 0) (sets_are ∙ ap (λ (d : Derivation). d.sets) is)) in
      let there : the_rows ≡ rows = sym (rows_are ∙ ap (λ (d : Derivation). d.rows) is) in
      subst (λ rows. HasRowSets rows entries) there (subst (HasRowSets the_rows) same (own-row_sets problem.passive (length problem.names)))

  entries-are : (sets : List (List ℕ)) (entries : List SetEntry) → sets ≡ derived.sets → entries ≡ own_entries 0 sets → entries ≡ the_entries
  entries-are sets entries sets_are entries_are = entries_are ∙ ap (own_entries 0) (sets_are ∙ ap (λ (d : Derivation). d.sets) is) ∙ derived-entries problem

  pub lower-made : (lower rowwise : Bool) (rows : List (List (List ℕ))) (sets : List (List ℕ)) (entries : List SetEntry) (made : LowerMap) → rows ≡ derived.rows → sets ≡ derived.sets → entries ≡ own_entries 0 sets
      → made ≡ (if rowwise then map_by_rows rows (by_set entries) else by_set entries) → true ≡ lower
      → made_step true derived.problem derived.rows made ≡ (if rowwise then step_by_rows (derived_step lower problem) else derived_step lower problem)
  lower-made lower rowwise rows sets entries made rows_are sets_are entries_are map_is low =
      subst (λ (b : Bool). made_step true derived.problem derived.rows made ≡ (if rowwise then step_by_rows (derived_step b problem) else derived_step b problem)) low (go rowwise map_is)
    where
      go : (b : Bool) → made ≡ (if b then map_by_rows rows (by_set entries) else by_set entries)
          → made_step true derived.problem derived.rows made ≡ (if b then step_by_rows (derived_step true problem) else derived_step true problem)
      go true e =
          let there : rows ≡ the_rows = rows_are ∙ ap (λ (d : Derivation). d.rows) is in
          let same : entries ≡ the_entries = entries-are sets entries sets_are entries_are in
          let maps : made ≡ by_row (row_form the_rows the_entries) = e ∙ (λ i. by_row (row_form (there i) (same i))) in
          (λ i. record { lower = true; next = (is i).problem; rows = (is i).rows; map = maps i })
      go false e =
          let maps : made ≡ by_set the_entries = e ∙ ap by_set (entries-are sets entries sets_are entries_are) in
          (λ i. record { lower = true; next = (is i).problem; rows = (is i).rows; map = maps i })

  pub upper-made : (lower rowwise : Bool) (sets : List (List ℕ)) (entries : List SetEntry) → sets ≡ derived.sets → entries ≡ own_entries 0 sets → false ≡ lower
      → made_step false derived.problem [] (by_set entries) ≡ (if rowwise then step_by_rows (derived_step lower problem) else derived_step lower problem)
  upper-made lower rowwise sets entries sets_are entries_are low =
      subst (λ (b : Bool). made_step false derived.problem [] (by_set entries) ≡ (if rowwise then step_by_rows (derived_step b problem) else derived_step b problem)) low (go rowwise)
    where
      made : made_step false derived.problem [] (by_set entries) ≡ derived_step false problem
      made = let same : entries ≡ the_entries = entries-are sets entries sets_are entries_are in
          (λ i. record { lower = false; next = (is i).problem; rows = []; map = by_set (same i) })

      go : (b : Bool) → made_step false derived.problem [] (by_set entries) ≡ (if b then step_by_rows (derived_step false problem) else derived_step false problem)
      go true = made
      go false = made
