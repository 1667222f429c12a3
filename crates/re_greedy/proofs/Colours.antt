-- What stands around the nodes of a proper colouring.
use Rattle.std.proofs.Common.{◌≡◌, ℕ, ◌≤◌, ◌<◌, List, eqb, length, get_or, sym, ◌∙◌, ap, arith}
use Rattle.std.specs.Prelude.{Contains, replicate}
use Rattle.std.proofs.lemmas.List.{map-id}
use Rattle.std.proofs.lemmas.List.Elements.{Contains-get_or}
use Rattle.re_labels.proofs.LawsOfRows.{multisets_law}
use Rattle.re_labels.specs.Configs.{IsConfig, support_of}
use Rattle.re_labels.specs.Orders.{multisets}
use Rattle.re_given.specs.Unavoidable.{colouring}
use Rattle.re_greedy.proofs.Parts.{all_alike}
use Rattle.re_labels.proofs.Membership.{AllByRecursion-contains, Contains-filter_cases, Distinct}
use Rattle.re_labels.proofs.Tests.{eqb-true}
use Rattle.re_local.proofs.Supports.{Distinct-support, alike_support}

module _ (a p c : ℕ) (config : List ℕ) where
  pub colour_around : 1 ≤ a → Contains (colouring a p c).active.configs config → (x : ℕ) × (x < c) × (config ≡ replicate a x)
  colour_around some held =
      let (listed, passes) = Contains-filter_cases (λ edges. eqb (length (support_of edges)) 1) (multisets a 0 c) config held in
      let config_is : IsConfig a c config = ((multisets_law a c).1 config).0 listed in
      let one : length (support_of config) ≡ 1 = eqb-true (length (support_of config)) 1 passes in
      let count = config_is.count in
      let x : ℕ = get_or config 0 0 in
      let x_in : Contains config x = Contains-get_or config 0 0 (omega (arith, some, count)) in (
        x,
        AllByRecursion-contains (λ x. x < c) config x config_is.below x_in,
        sym (map-id config) ∙ (all_alike (λ y. y) x config (λ y at. alike_support config y x one at x_in) ∙ ap (λ k. replicate k x) count),
      )

  pub colours_around : Contains (colouring a p c).passive.configs config → IsConfig p c config × Distinct config
  colours_around held =
      let (listed, passes) = Contains-filter_cases (λ edges. eqb (length (support_of edges)) (length edges)) (multisets p 0 c) config held in
      (((multisets_law p c).1 config).0 listed, Distinct-support config (eqb-true (length (support_of config)) (length config) passes))
