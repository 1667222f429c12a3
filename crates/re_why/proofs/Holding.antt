-- Tests of what a constraint and rows hold.
use Rattle.std.proofs.Common.{◌≡◌, ℕ, zero, suc, ◌<◌, Bool, true, false, List, [], ◌∷◌, length, get_or, refl, sym, ap, ◌∙◌, subst, arith, Some, None, Option}
use Rattle.std.specs.Prelude.{Contains, IsTrue, ◌↔◌, find, not}
use Rattle.std.specs.List.{AllByRecursion, list_all, list_any}
use Rattle.std.proofs.lemmas.Bool.Decides.{nat_tests}
use Rattle.re_cert.specs.Bounds.{is_label, pair_fits}
use Rattle.re_problem.specs.NamedProblems.{NamedProblem}
use Rattle.re_labels.proofs.Before.{same_list-refl, same_list-same}
use Rattle.re_labels.proofs.Membership.{AllByRecursion-contains, In-Contains, any_found, any_true, length-map'}
use Rattle.re_labels.proofs.Tests.{and-true, same_tests}
use Rattle.re_labels.specs.Lists.{same_list}
use Rattle.re_labels.specs.declared.TheConstants.{MAX_LABELS}
use Rattle.re_check.proofs.Telling.{read-held}
use Rattle.re_labels.specs.Configs.{IsConfig}
use Rattle.re_labels.specs.Constraints.{Constraint, IsConstraint}
use Rattle.re_problem.specs.Steps.{entry_sets, set_for}
use Rattle.re_why.proofs.Found.{found_passes}
use Rattle.re_why.specs.Finding.{is_held}

pub held-test : (constraint : Constraint) (config : List ℕ) (r : Bool) → IsTrue r ↔ Contains constraint.configs config → r ≡ is_held constraint config
held-test constraint config r tells =
    same_tests r (is_held constraint config)
    (λ h. any_true (λ other. same_list other config) constraint.configs config (tells.0 h) (same_list-refl config))
    (λ h. let (other, held, same) = any_found (λ other. same_list other config) constraint.configs h in tells.1 (subst (Contains constraint.configs) (same_list-same other config same) held))

-- what is found among the configurations is one of them
pub found-held : (P : List ℕ → Type 0) (test : List ℕ → Bool) (constraint : Constraint) (config : List ℕ) → Some config ≡ find test constraint.configs → AllByRecursion P constraint.configs → P config
found-held P test constraint config e all = AllByRecursion-contains P constraint.configs config all (In-Contains config constraint.configs (found_passes test constraint.configs config e).1)

pub found-count : (n : ℕ) (test : List ℕ → Bool) (constraint : Constraint) (config sets : List ℕ) → IsConstraint n constraint → Some config ≡ find test constraint.configs → length config ≡ constraint.degree
found-count n test constraint config sets is e = (found-held (IsConfig constraint.degree n) test constraint config e is.configs).count

-- the sets of the rows stand among those of the entries
pub all-held : (rows : List (List (List ℕ))) (sets : List (List ℕ)) → ((row : List (List ℕ)) → Contains rows row → (set : List ℕ) → Contains row set → Contains sets set) → AllByRecursion (AllByRecursion (Contains sets)) rows
all-held [] sets h = tt
all-held (row ∷ rows) sets h = (each row (h row (0, omega arith, refl)), all-held rows sets (λ other held. h other (suc held.0, (let l = held.1 in omega (arith, l)), held.2)))
  where
    each : (row : List (List ℕ)) → ((set : List ℕ) → Contains row set → Contains sets set) → AllByRecursion (Contains sets) row
    each [] h = tt
    each (s ∷ row) h = (h s (0, omega arith, refl), each row (λ t held. h t (suc held.0, (let l = held.1 in omega (arith, l)), held.2)))

pub first_below : (last target : NamedProblem) (pairs : List (ℕ × ℕ)) → list_all (pair_fits last target) pairs ≡ true → AllByRecursion (λ (pair : ℕ × ℕ). pair.0 < length last.names) pairs
first_below last target [] fits = tt
first_below last target (pair ∷ pairs) fits =
    let both = and-true (pair_fits last target pair) (list_all (pair_fits last target) pairs) fits in
    let below : is_label last pair.0 ≡ true = (and-true (is_label last pair.0) (is_label target pair.1) both.0).0 in
    ((let small : pair.0 < length last.names = grind (arith, nat_tests) in small), first_below last target pairs both.1)

pub config-count : (constraint : Constraint) (place : ℕ) (config : List ℕ) → IsConstraint MAX_LABELS constraint → place < length constraint.configs → config ≡ get_or constraint.configs place [] → length config ≡ constraint.degree
config-count constraint place config is l e =
    (AllByRecursion-contains (IsConfig constraint.degree MAX_LABELS) constraint.configs config is.configs (subst (Contains constraint.configs) (sym e) (read-held constraint.configs place [] l))).count
