-- An upper step meets its clauses exactly where it is an upper step with its map.
use Rattle.std.proofs.Common.{◌≡◌, ℕ, ◌<◌, true, not, eqb, List, [], ◌∷◌, length, map, refl, sym, ap, ◌∙◌, subst, arith}
use Rattle.std.proofs.lemmas.Bool.Decides.{nat_tests}
use Rattle.std.proofs.lemmas.Slice.Eq.{bytes_eq-Decides}
use Rattle.std.specs.List.{AllByRecursion, list_all}
use Rattle.std.specs.Str.{bytes_eq}
use Rattle.re_labels.proofs.Membership.{AllByRecursion-from_contains}
use Rattle.re_labels.proofs.Tests.{and-true, eqb-same, eqb-true, true-and}
use Rattle.re_labels.specs.Lists.{IsRising, count_from}
use Rattle.re_labels.specs.Sets.{IsLabelSet}
use Rattle.re_labels.proofs.Goodness.{IsAllowed-is_allowed, IsGood-is_good, is_allowed-IsAllowed, is_good-IsGood}
use Rattle.re_labels.specs.GoodRows.{IsAllowed, IsGood}
use Rattle.re_problem.proofs.Building.{below_all}
use Rattle.re_problem.specs.NamedProblems.{NamedProblem, unnamed}
use Rattle.re_problem.specs.Steps.{IsUpperStep, SetEntry, entry_sets, set_for}
use Rattle.re_cert.specs.Bounds.{BoundStep, entries_in, is_label}
use Rattle.re_check.proofs.StepMeaning.{all_held, all_pass, all_there, none_fails}
use Rattle.re_check.specs.Clauses.{is_filled, meets, step_clauses}
use Rattle.re_check.specs.ClauseLaws.{HaveSets, UpperStepLaw}
use Rattle.re_check.specs.declared.clause.Clause.TheVariants.{U1, U2, U3, U4}

-- ---- sets
filled-set : (before : NamedProblem) (set : List ℕ) → IsRising (λ x y. x < y) set → is_filled before set ≡ true → IsLabelSet (length before.names) set × (0 < length set)
filled-set before set rises test =
    let both = and-true (not (eqb (length set) 0)) (list_all (is_label before) set) test in
    let some : not (eqb (length set) 0) ≡ true = both.0 in
    ((rises, AllByRecursion-from_contains (λ x. x < length before.names) set (all_there (is_label before) (λ x. x < length before.names) set (known before) both.1)), (let l : 0 < length set = grind (arith, nat_tests) in l))
  where
    known : (p : NamedProblem) (x : ℕ) → is_label p x ≡ true → x < length p.names
    known p x named = grind (arith, nat_tests)

set-filled : (before : NamedProblem) (set : List ℕ) → IsLabelSet (length before.names) set → 0 < length set → is_filled before set ≡ true
set-filled before set is some =
    let filled : not (eqb (length set) 0) ≡ true = grind (arith, nat_tests) in
    true-and (not (eqb (length set) 0)) (list_all (is_label before) set) filled (below_all (length before.names) set is.1)

filled-sets : (before : NamedProblem) (sets : List (List ℕ)) → AllByRecursion (IsRising (λ x y. x < y)) sets → list_all (is_filled before) sets ≡ true → AllByRecursion (λ s. IsLabelSet (length before.names) s × (0 < length s)) sets
filled-sets before [] rise all = tt
filled-sets before (set ∷ sets) rise all =
    let both = and-true (is_filled before set) (list_all (is_filled before) sets) all in (filled-set before set rise.0 both.0, filled-sets before sets rise.1 both.1)

sets-filled : (before : NamedProblem) (sets : List (List ℕ)) → AllByRecursion (λ s. IsLabelSet (length before.names) s × (0 < length s)) sets → list_all (is_filled before) sets ≡ true
sets-filled before [] all = refl
sets-filled before (set ∷ sets) all = true-and (is_filled before set) (list_all (is_filled before) sets) (set-filled before set all.0.0 all.0.1) (sets-filled before sets all.1)

-- ---- the clauses
module _ (before : NamedProblem) (s : BoundStep) where
  abbrev entries : List SetEntry
  entries = entries_in s.map

  abbrev labels : List ℕ
  labels = map (λ (entry : SetEntry). entry.label) entries

  upper_step_meant : HaveSets entries → AllByRecursion (λ clause. meets before s clause ≡ true) (U1 ∷ U2 ∷ U3 ∷ U4 ∷ []) → IsUpperStep (unnamed before) (unnamed s.next) entries
  upper_step_meant rise (degrees, (named, (good, (allowed, u)))) =
      let both = and-true (eqb s.next.active.degree before.passive.degree) (eqb s.next.passive.degree before.active.degree) degrees in
      let parts = and-true (bytes_eq labels (count_from 0 (length s.next.names))) (list_all (is_filled before) (entry_sets entries)) named in
      record {
        active_degree = eqb-true s.next.active.degree before.passive.degree both.0;
        passive_degree = eqb-true s.next.passive.degree before.active.degree both.1;
        labels = (bytes_eq-Decides labels (count_from 0 (length s.next.names))).0 parts.0;
        sets = filled-sets before (entry_sets entries) rise parts.1;
        good = all_there _ _ s.next.active.configs (λ config. is_good-IsGood before.passive (map (set_for entries) config)) good;
        choice = all_there _ _ s.next.passive.configs (λ config. is_allowed-IsAllowed before.active (map (set_for entries) config)) allowed;
      }

  upper_step_met : IsUpperStep (unnamed before) (unnamed s.next) entries → AllByRecursion (λ clause. meets before s clause ≡ true) (U1 ∷ U2 ∷ U3 ∷ U4 ∷ [])
  upper_step_met step = (
    true-and _ _ (ap (λ d. eqb d before.passive.degree) step.active_degree ∙ eqb-same before.passive.degree) (ap (λ d. eqb d before.active.degree) step.passive_degree ∙ eqb-same before.active.degree),
    (
      true-and (bytes_eq labels (count_from 0 (length s.next.names))) (list_all (is_filled before) (entry_sets entries))
          ((bytes_eq-Decides labels (count_from 0 (length s.next.names))).1 step.labels) (sets-filled before (entry_sets entries) step.sets),
      (
        all_held _ (λ config. IsGood before.passive (map (set_for entries) config)) s.next.active.configs (λ config. IsGood-is_good before.passive (map (set_for entries) config)) step.good,
        (all_held _ (λ config. IsAllowed before.active (map (set_for entries) config)) s.next.passive.configs (λ config. IsAllowed-is_allowed before.active (map (set_for entries) config)) step.choice, tt),
      ),
    ),
  )

pub upper_steps : UpperStepLaw
upper_steps before s rise upper =
    let clauses : step_clauses s ≡ U1 ∷ U2 ∷ U3 ∷ U4 ∷ [] = rw upper refl in (
      λ none. upper_step_meant before s rise (subst (AllByRecursion (λ clause. meets before s clause ≡ true)) clauses (all_pass (meets before s) (step_clauses s) none)),
      λ step. none_fails (meets before s) (step_clauses s) (subst (AllByRecursion (λ clause. meets before s clause ≡ true)) (sym clauses) (upper_step_met before s step)),
    )
