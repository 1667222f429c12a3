-- The tests of constraints and rows decide the facts.
use Rattle.std.proofs.Common.{◌≡◌, ℕ, ◌<◌, true, ◌&&◌, ltb, eqb, List, [], ◌∷◌, length, refl, sym, ◌∙◌, subst, arith}
use Rattle.std.specs.Prelude.{Contains}
use Rattle.std.specs.List.{AllByRecursion, list_all}
use Rattle.std.proofs.lemmas.Bool.Decides.{nat_tests}
use Rattle.re_labels.proofs.ChoicesOfRows.{In-choices, In-choices_from, IsChoice-Rearranged}
use Rattle.re_labels.proofs.Placing.{Dominates-dominates, dominates-Dominates}
use Rattle.re_labels.proofs.Rearranging.{Rearranged-sym, length-Rearranged}
use Rattle.re_labels.proofs.Sorting.{AllByRecursion-Rearranged, sorted-Rearranged}
use Rattle.re_labels.specs.Configs.{sorted}
use Rattle.re_labels.specs.Rearranging.{Rearranged}
use Rattle.re_labels.specs.Rows.{IsChoice, choices, dominates, is_full}
use Rattle.re_labels.proofs.Before.{same_list-refl, same_list-same}
use Rattle.re_labels.proofs.Membership.{In-Contains, all-In, all-In_from, any-In, any-In_from, any_found, any_true}
use Rattle.re_labels.proofs.Tests.{and-true, eqb-same, eqb-true, true-and}
use Rattle.re_labels.specs.Lists.{same_list}
use Rattle.re_labels.specs.Constraints.{Constraint, Has, has_config}
use Rattle.re_labels.specs.GoodRows.{IsAllowed, IsDominated, IsGood, is_allowed, is_dominated, is_good}

-- ---- configurations of a constraint
pub has_config-Has : (constraint : Constraint) (labels : List ℕ) → has_config constraint labels ≡ true → Has constraint labels
has_config-Has constraint labels h =
    let (config, held, same) = any_found (λ config. same_list config (sorted labels)) constraint.configs h in
    subst (λ c. Contains constraint.configs c) (same_list-same config (sorted labels) same) held

pub Has-has_config : (constraint : Constraint) (labels : List ℕ) → Has constraint labels → has_config constraint labels ≡ true
Has-has_config constraint labels h = any_true (λ config. same_list config (sorted labels)) constraint.configs (sorted labels) h (same_list-refl (sorted labels))

pub Has-Rearranged : (constraint : Constraint) {labels labels' : List ℕ} → Rearranged labels labels' → Has constraint labels → Has constraint labels'
Has-Rearranged constraint r h = subst (λ c. Contains constraint.configs c) (sorted-Rearranged r) h

-- ---- good rows
pub filled-is_full : (row : List (List ℕ)) → AllByRecursion (λ s. 0 < length s) row → is_full row ≡ true
filled-is_full [] h = refl
filled-is_full (s ∷ row) h = true-and (ltb 0 (length s)) (is_full row) (let p : 0 < length s = h.0 in grind (arith, nat_tests)) (filled-is_full row h.1)

pub is_full-filled : (row : List (List ℕ)) → is_full row ≡ true → AllByRecursion (λ s. 0 < length s) row
is_full-filled [] h = tt
is_full-filled (s ∷ row) h = let two = and-true (ltb 0 (length s)) (is_full row) h in (let p : ltb 0 (length s) ≡ true = two.0 in grind (arith, nat_tests), is_full-filled row two.1)

pub is_good-IsGood : (constraint : Constraint) (row : List (List ℕ)) → is_good constraint row ≡ true → IsGood constraint row
is_good-IsGood constraint row h =
    let outer = and-true (eqb (length row) constraint.degree && is_full row) (list_all (has_config constraint) (choices row)) h in
    let inner = and-true (eqb (length row) constraint.degree) (is_full row) outer.0 in
    record {
      count = eqb-true (length row) constraint.degree inner.0;
      filled = is_full-filled row inner.1;
      choice = λ labels chosen. has_config-Has constraint labels (all-In (has_config constraint) (choices row) outer.1 labels (In-choices labels row chosen));
    }

pub IsGood-is_good : (constraint : Constraint) (row : List (List ℕ)) → IsGood constraint row → is_good constraint row ≡ true
IsGood-is_good constraint row good =
    true-and (eqb (length row) constraint.degree && is_full row) (list_all (has_config constraint) (choices row))
    (true-and (eqb (length row) constraint.degree) (is_full row) (subst (λ d. eqb (length row) d ≡ true) good.count (eqb-same (length row))) (filled-is_full row good.filled))
    (all-In_from (has_config constraint) (choices row) (λ labels i. Has-has_config constraint labels (good.choice labels (In-choices_from labels row i))))

pub IsGood-Rearranged : (constraint : Constraint) {row other : List (List ℕ)} → Rearranged row other → IsGood constraint row → IsGood constraint other
IsGood-Rearranged constraint {row} {other} order good = record {
  count = sym (length-Rearranged order) ∙ good.count;
  filled = AllByRecursion-Rearranged (λ s. 0 < length s) order good.filled;
  choice = λ labels chosen. back labels (IsChoice-Rearranged labels (Rearranged-sym order) chosen);
}
  where
    back : (labels : List ℕ) → (labels' : List ℕ) × Rearranged labels labels' × IsChoice labels' row → Has constraint labels
    back labels (labels', moved, chosen) = Has-Rearranged constraint (Rearranged-sym moved) (good.choice labels' chosen)

-- ---- allowed rows
pub is_allowed-IsAllowed : (constraint : Constraint) (row : List (List ℕ)) → is_allowed constraint row ≡ true → IsAllowed constraint row
is_allowed-IsAllowed constraint row h =
    let a = any-In_from (has_config constraint) (choices row) h in
    (a.0, In-choices_from a.0 row a.1, has_config-Has constraint a.0 a.2)

pub IsAllowed-is_allowed : (constraint : Constraint) (row : List (List ℕ)) → IsAllowed constraint row → is_allowed constraint row ≡ true
IsAllowed-is_allowed constraint row (labels, chosen, held) = any-In (has_config constraint) labels (choices row) (In-choices labels row chosen) (Has-has_config constraint labels held)

pub IsAllowed-Rearranged : (constraint : Constraint) {row other : List (List ℕ)} → Rearranged row other → IsAllowed constraint row → IsAllowed constraint other
IsAllowed-Rearranged constraint order (labels, chosen, held) =
    let (labels', moved, chosen') = IsChoice-Rearranged labels order chosen in
    (labels', chosen', Has-Rearranged constraint moved held)

-- ---- dominated rows
pub is_dominated-IsDominated : (rows : List (List (List ℕ))) (other : List (List ℕ)) → is_dominated rows other ≡ true → IsDominated rows other
is_dominated-IsDominated rows other h =
    let a = any-In_from (λ top. dominates top other) rows h in
    (a.0, In-Contains a.0 rows a.1, dominates-Dominates a.0 other a.2)

pub IsDominated-is_dominated : (rows : List (List (List ℕ))) (other : List (List ℕ)) → IsDominated rows other → is_dominated rows other ≡ true
IsDominated-is_dominated rows other (top, held, dom) = any_true (λ top. dominates top other) rows top held (Dominates-dominates top other dom)
