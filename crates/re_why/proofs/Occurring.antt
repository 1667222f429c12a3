-- Sets among the entries and in the rows.
use Rattle.std.proofs.Common.{◌≡◌, ℕ, Bool, true, false, not, List, refl, sym, ap, ◌∙◌, subst, Some, None, Option, true≢false}
use Rattle.std.specs.Prelude.{Contains, IsTrue, ◌↔◌}
use Rattle.std.specs.List.{list_any}
use Rattle.re_labels.proofs.Before.{same_list-refl, same_list-same}
use Rattle.re_labels.proofs.Membership.{any_found, any_true}
use Rattle.re_labels.proofs.Tests.{same_tests}
use Rattle.re_labels.specs.Lists.{same_list}
use Rattle.re_problem.specs.Steps.{SetEntry, entry_sets}
use Rattle.re_check.specs.StepClauses.{OccursInRows}
use Rattle.re_why.specs.Finding.{has_set, is_foreign, occurs_in}

pub has-is : (entries : List SetEntry) (set : List ℕ) → has_set entries set ≡ true → Contains (entry_sets entries) set
has-is entries set passes = let (other, held, same) = any_found (same_list set) (entry_sets entries) passes in subst (Contains (entry_sets entries)) (sym (same_list-same set other same)) held

pub is-has : (entries : List SetEntry) (set : List ℕ) → Contains (entry_sets entries) set → has_set entries set ≡ true
is-has entries set held = any_true (same_list set) (entry_sets entries) set held (same_list-refl set)

pub occurs-is : (rows : List (List (List ℕ))) (set : List ℕ) → occurs_in rows set ≡ true → OccursInRows rows set
occurs-is rows set passes =
    let (row, held, there) = any_found (list_any (same_list set)) rows passes in
    let (other, inside, same) = any_found (same_list set) row there in
    (row, held, subst (Contains row) (sym (same_list-same set other same)) inside)

pub is-occurs : (rows : List (List (List ℕ))) (set : List ℕ) → OccursInRows rows set → occurs_in rows set ≡ true
is-occurs rows set occurs = any_true (list_any (same_list set)) rows occurs.0 occurs.1 (any_true (same_list set) occurs.0 set occurs.2 (same_list-refl set))

pub foreign-test : (rows : List (List (List ℕ))) (entry : SetEntry) (set : List ℕ) (r : Bool) → set ≡ entry.set → IsTrue r ↔ OccursInRows rows set → not r ≡ is_foreign rows entry
foreign-test rows entry set r same tells =
    ap not (same_tests r (occurs_in rows set) (λ h. is-occurs rows set (tells.0 h)) (λ h. tells.1 (occurs-is rows set h)) ∙ ap (occurs_in rows) same)

pub set-there : (entries : List SetEntry) (set : List ℕ) → Contains (entry_sets entries) set → true ≡ has_set entries set
set-there entries set held = sym (is-has entries set held)

pub set-absent : (entries : List SetEntry) (set : List ℕ) → (Contains (entry_sets entries) set → ⊥) → false ≡ has_set entries set
set-absent entries set never = go (has_set entries set) refl
  where
    go : (b : Bool) → has_set entries set ≡ b → false ≡ b
    go false e = refl
    go true e = absurd (never (has-is entries set e))
