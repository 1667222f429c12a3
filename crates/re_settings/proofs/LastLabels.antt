-- The active configurations of an input problem in the order of their last labels.
use Rattle.std.proofs.Common.{◌≡◌, ℕ, ◌<◌, ◌-◌, List, length, filter, get_or, arith}
use Rattle.std.specs.Prelude.{Contains}
use Rattle.std.specs.List.{AllByRecursion}
use Rattle.std.proofs.lemmas.List.Elements.{Contains-get_or}
use Rattle.re_labels.proofs.Membership.{AllByRecursion-contains, AllByRecursion-from_contains, Contains-count_from, Contains-filter, Contains-filter_cases, Contains-flat_map, Contains-flat_map_cases}
use Rattle.re_labels.proofs.Tests.{eqb-same}
use Rattle.re_labels.specs.Lists.{count_from}
use Rattle.re_labels.specs.Configs.{IsConfig}
use Rattle.re_labels.specs.Constraints.{Constraint, IsConstraint}
use Rattle.re_settings.specs.Fits.{by_last, ends_in}

-- each configuration is there
pub by_last-held : (constraint : Constraint) (n : ℕ) (config : List ℕ) → IsConstraint n constraint → Contains constraint.configs config → Contains (by_last constraint n) config
by_last-held constraint n config is held =
    let fits : IsConfig constraint.degree n config = AllByRecursion-contains (IsConfig constraint.degree n) constraint.configs config is.configs held in
    let last : ℕ = get_or config (constraint.degree - 1) 0 in
    let there : Contains config last = Contains-get_or config (constraint.degree - 1) 0 (omega (arith, fits.count, is.least)) in
    let below : last < n = AllByRecursion-contains (λ x. x < n) config last fits.below there in
    Contains-flat_map (λ label. filter (ends_in constraint.degree label) constraint.configs) (count_from 0 n) last config
    (Contains-count_from 0 n last (omega arith) (omega (arith, below)))
    (Contains-filter (ends_in constraint.degree last) constraint.configs config held (eqb-same last))

-- and nothing else
pub by_last-from : (constraint : Constraint) (n : ℕ) (config : List ℕ) → Contains (by_last constraint n) config → Contains constraint.configs config
by_last-from constraint n config held =
    let (label, at, among) = Contains-flat_map_cases (λ label. filter (ends_in constraint.degree label) constraint.configs) (count_from 0 n) config held in
    (Contains-filter_cases (ends_in constraint.degree label) constraint.configs config among).0

-- each has as many labels as the degree
pub by_last-counts : (constraint : Constraint) (n : ℕ) → IsConstraint n constraint → AllByRecursion (λ (config : List ℕ). length config ≡ constraint.degree) (by_last constraint n)
by_last-counts constraint n is =
    AllByRecursion-from_contains (λ (config : List ℕ). length config ≡ constraint.degree) (by_last constraint n) (λ config held.
    let fits : IsConfig constraint.degree n config = AllByRecursion-contains (IsConfig constraint.degree n) constraint.configs config is.configs (by_last-from constraint n config held) in fits.count)
