-- Trimming: labels that stand in no active or in no passive configuration of the labels left are taken away, until none is. What stays is the greatest
-- trimmed set.
use Rattle.std.proofs.Common.{◌≡◌, ℕ, zero, suc, ◌+◌, ◌≤◌, ◌<◌, Bool, true, false, cond, ◌&&◌, eqb, List, [], ◌∷◌, length, refl, sym, ap, ◌∙◌, subst, ◌⊎◌, inl, inr, arith}
use Rattle.std.specs.Prelude.{Contains, filter}
use Rattle.std.specs.List.{AllByRecursion, list_all}
use Rattle.re_labels.proofs.Rearranging.{Contains-Rearranged, length-Rearranged}
use Rattle.re_labels.proofs.Sorting.{AllByRecursion-Rearranged, Rearranged-sorted, sorted-Rearranged, sorted_again}
use Rattle.re_labels.specs.Configs.{IsConfig, sorted}
use Rattle.re_labels.specs.Rearranging.{Rearranged}
use Rattle.re_forests.specs.Flexible.{Joins, side}
use Rattle.re_forests.specs.Trimmed.{IsTrimmed}
use Rattle.re_forests.specs.TrimmedSets.{TrimmedSetLaw, held, left_after, stands, stays, trimmed_set, within}
use Rattle.re_labels.proofs.Before.{IsBefore-trans}
use Rattle.re_labels.proofs.Membership.{AllByRecursion-contains, AllByRecursion-from_contains, AllByRecursion-weaker, Contains-In, Contains-cases, Contains-count_from, Contains-filter, Contains-filter_cases, Contains-here, Contains-none, In-Contains, all-In, all-In_from, any_found, any_true, length-count_from, length-filter_most}
use Rattle.re_labels.proofs.Rising.{rising-filter}
use Rattle.re_labels.proofs.Tests.{and-true, eqb-same, eqb-true, true-and}
use Rattle.re_labels.specs.Lists.{IsBefore}
use Rattle.re_layers.proofs.Filters.{filter_all}
use Rattle.re_problem.specs.Problems.{IsProblem, Problem}
use Rattle.re_labels.specs.Constraints.{Constraint, Has, IsConstraint}
use Rattle.re_given.proofs.GrownInputs.{without_one}

-- ---- labels of a set, and of its configurations
pub held_Contains : (set : List ℕ) (x : ℕ) → held set x ≡ true → Contains set x
held_Contains set x h = let (y, on, e) = any_found (eqb x) set h in subst (Contains set) (sym (eqb-true x y e)) on

pub Contains_held : (set : List ℕ) (x : ℕ) → Contains set x → held set x ≡ true
Contains_held set x on = any_true (eqb x) set x on (eqb-same x)

abbrev stands_in : List ℕ → ℕ → List ℕ → Bool
stands_in set x config = held config x && list_all (held set) config

-- labels around a node
pub all_held : (set labels : List ℕ) → AllByRecursion (Contains set) labels → list_all (held set) (sorted labels) ≡ true
all_held set labels all =
    all-In_from (held set) (sorted labels) (λ y at. Contains_held set y
    (AllByRecursion-contains (Contains set) (sorted labels) y (AllByRecursion-Rearranged (Contains set) (Rearranged-sorted labels) all) (In-Contains y (sorted labels) at)))

pub around_stands : (constraint : Constraint) (set labels : List ℕ) (x : ℕ) → Has constraint labels → AllByRecursion (Contains set) labels → Contains labels x
    → stands constraint set x ≡ true
around_stands constraint set labels x has all on =
    any_true (stands_in set x) constraint.configs (sorted labels) has
    (true-and (held (sorted labels) x) (list_all (held set) (sorted labels))
    (Contains_held (sorted labels) x (Contains-Rearranged x (Rearranged-sorted labels) on))
    (all_held set labels all))

pub joined_stands : (constraint : Constraint) (set : List ℕ) (x y : ℕ) → Contains set x → Contains set y → Joins constraint set x y → stands constraint set x ≡ true
joined_stands constraint set x y on at (rest, all, has) = around_stands constraint set (x ∷ y ∷ rest) x has (on, (at, all)) (Contains-here x (y ∷ rest))

pub stands_joined : (n : ℕ) (constraint : Constraint) (set : List ℕ) (x : ℕ) → IsConstraint n constraint → stands constraint set x ≡ true
    → (y : ℕ) × Contains set y × Joins constraint set x y
stands_joined n constraint set x is stood =
    let (config, on, passes) = any_found (stands_in set x) constraint.configs stood in
    let (at, all) = and-true (held config x) (list_all (held set) config) passes in
    let (rest, moved) = without_one config x (held_Contains config x at) in
    let good : IsConfig constraint.degree n config = AllByRecursion-contains (IsConfig constraint.degree n) constraint.configs config is.configs on in
    let inside : AllByRecursion (Contains set) config =
    AllByRecursion-from_contains (Contains set) config (λ y here. held_Contains set y (all-In (held set) config all y (Contains-In y config here))) in
    from config rest on good moved inside
  where
    from : (config rest : List ℕ) → Contains constraint.configs config → IsConfig constraint.degree n config → Rearranged config (x ∷ rest)
        → AllByRecursion (Contains set) config → (y : ℕ) × Contains set y × Joins constraint set x y
    from config [] on good moved inside =
        let one : length config ≡ 1 = length-Rearranged moved in
        let count = good.count in
        let least = is.least in
        absurd (omega (arith, one, count, least))
    from config (y ∷ rest) on good moved inside =
        let all : AllByRecursion (Contains set) (x ∷ y ∷ rest) = AllByRecursion-Rearranged (Contains set) moved inside in
        let same : sorted (x ∷ y ∷ rest) ≡ config = sym (sorted-Rearranged moved) ∙ sorted_again config good.ascends in
        (y, all.1.0, (rest, all.1.1, subst (Contains constraint.configs) (sym same) on))

-- ---- rounds of trimming
filter_shorter : (test : ℕ → Bool) (xs : List ℕ) → ((x : ℕ) → Contains xs x → test x ≡ true) ⊎ (length (filter test xs) < length xs)
filter_shorter test [] = inl (λ x on. absurd (Contains-none x on))
filter_shorter test (x ∷ xs) = at (test x) refl (filter_shorter test xs)
  where
    at : (b : Bool) → test x ≡ b → ((y : ℕ) → Contains xs y → test y ≡ true) ⊎ (length (filter test xs) < length xs)
        → ((y : ℕ) → Contains (x ∷ xs) y → test y ≡ true) ⊎ (length (cond b (x ∷ filter test xs) (filter test xs)) < suc (length xs))
    at true e (inl all) = inl (λ y on. elim (Contains-cases y x xs on) [ inl same ↦ ap test same ∙ e | inr later ↦ all y later ])
    at true e (inr less) = inr (omega (arith, less))
    at false e h = inr (let most = length-filter_most test xs in omega (arith, most))

module _ (problem : Problem) (is : IsProblem problem) where
  pub side_is : (active : Bool) → IsConstraint problem.labels (side problem active)
  side_is true = is.active
  side_is false = is.passive

  stays_side : (set : List ℕ) (active : Bool) (x : ℕ) → stays problem set x ≡ true → stands (side problem active) set x ≡ true
  stays_side set true x h = (and-true (stands problem.active set x) (stands problem.passive set x) h).0
  stays_side set false x h = (and-true (stands problem.active set x) (stands problem.passive set x) h).1

  -- a set of which all stay is trimmed
  all_stay : (set : List ℕ) → ((x : ℕ) → Contains set x → stays problem set x ≡ true) → IsTrimmed problem set
  all_stay set each active x on = stands_joined problem.labels (side problem active) set x (side_is active) (stays_side set active x (each x on))

  Fixed : ℕ → Type 0
  Fixed r = (x : ℕ) → Contains (left_after problem r) x → stays problem (left_after problem r) x ≡ true

  shorter : (r : ℕ) → (length (left_after problem r) + r ≤ problem.labels) ⊎ Fixed r
  unfolding Fixed
  shorter zero = inl (let count = length-count_from 0 problem.labels in omega (arith, count))
  shorter (suc r) = at (shorter r) (filter_shorter (stays problem (left_after problem r)) (left_after problem r))
    where
      old : List ℕ
      old = left_after problem r

      next : ((x : ℕ) → Contains old x → stays problem old x ≡ true) → Fixed (suc r)
      next all = subst (λ set. (x : ℕ) → Contains set x → stays problem set x ≡ true) (sym (filter_all (stays problem old) old all)) all

      at : (length old + r ≤ problem.labels) ⊎ Fixed r
          → ((x : ℕ) → Contains old x → stays problem old x ≡ true) ⊎ (length (filter (stays problem old) old) < length old)
          → (length (filter (stays problem old) old) + suc r ≤ problem.labels) ⊎ Fixed (suc r)
      at few (inl all) = inr (next all)
      at (inl few) (inr less) = inl (omega (arith, few, less))
      at (inr fixed) (inr less) = inr (next fixed)

  pub trimmed_set_trimmed : IsTrimmed problem (trimmed_set problem)
  unfolding Fixed
  trimmed_set_trimmed = elim (shorter (suc problem.labels)) [
    | inl few ↦ absurd (omega (arith, few))
    | inr fixed ↦ all_stay (trimmed_set problem) fixed
  ]

  label_low : (active : Bool) (labels : List ℕ) (x : ℕ) → Has (side problem active) labels → Contains labels x → x < problem.labels
  label_low active labels x has on =
      let good : IsConfig (side problem active).degree problem.labels (sorted labels) =
      AllByRecursion-contains (IsConfig (side problem active).degree problem.labels) (side problem active).configs (sorted labels) (side_is active).configs has in
      AllByRecursion-contains (λ y. y < problem.labels) (sorted labels) x good.below (Contains-Rearranged x (Rearranged-sorted labels) on)

  -- labels around a node are left
  pub left_first : (active : Bool) (labels : List ℕ) (x : ℕ) → Has (side problem active) labels → Contains labels x → Contains (left_after problem zero) x
  left_first active labels x has on =
      let low = label_low active labels x has on in Contains-count_from 0 problem.labels x (omega arith) (omega (arith, low))

  pub left_next : (r x : ℕ) → Contains (left_after problem r) x → ((active : Bool) → stands (side problem active) (left_after problem r) x ≡ true)
      → Contains (left_after problem (suc r)) x
  left_next r x on each =
      Contains-filter (stays problem (left_after problem r)) (left_after problem r) x on
      (true-and (stands problem.active (left_after problem r) x) (stands problem.passive (left_after problem r) x) (each true) (each false))

  -- each trimmed set is a part of it
  pub trimmed_part : (set : List ℕ) → IsTrimmed problem set → (r x : ℕ) → Contains set x → Contains (left_after problem r) x
  trimmed_part set trim zero x on =
      let (y, at, (rest, all, has)) = trim true x on in left_first true (x ∷ y ∷ rest) x has (Contains-here x (y ∷ rest))
  trimmed_part set trim (suc r) x on = next (λ y at. trimmed_part set trim r y at)
    where
      next : ((y : ℕ) → Contains set y → Contains (left_after problem r) y) → Contains (left_after problem (suc r)) x
      next before = left_next r x (before x on) (λ active.
          let (y, at, (rest, all, has)) = trim active x on in
          joined_stands (side problem active) (left_after problem r) x y (before x on) (before y at)
          (rest, AllByRecursion-weaker (Contains set) (Contains (left_after problem r)) before rest all, has))

-- ---- the problem that is left
within_is : (n : ℕ) (set : List ℕ) (constraint : Constraint) → IsConstraint n constraint → IsConstraint n (within set constraint)
within_is n set constraint is = record {
  least = is.least;
  most = is.most;
  configs = AllByRecursion-from_contains (IsConfig constraint.degree n) (within set constraint).configs
      (λ config on. AllByRecursion-contains (IsConfig constraint.degree n) constraint.configs config is.configs
      (Contains-filter_cases (list_all (held set)) constraint.configs config on).0);
  ascends = rising-filter IsBefore IsBefore-trans (list_all (held set)) constraint.configs is.ascends;
}

pub has_within : (set : List ℕ) (constraint : Constraint) (labels : List ℕ) → Has constraint labels → AllByRecursion (Contains set) labels
    → Has (within set constraint) labels
has_within set constraint labels has all = Contains-filter (list_all (held set)) constraint.configs (sorted labels) has (all_held set labels all)

pub trimmed_set_law : TrimmedSetLaw
trimmed_set_law problem is = (
  trimmed_set_trimmed problem is,
  λ set trim. trimmed_part problem is set trim (suc problem.labels),
  record {
    active = within_is problem.labels (trimmed_set problem) problem.active is.active;
    passive = within_is problem.labels (trimmed_set problem) problem.passive is.passive;
  },
)
