-- The labels of a constraint, and the places of its configurations.
use Rattle.std.proofs.Common.{◌≡◌, ℕ, ◌*◌, ◌<◌, ◌||◌, Bool, true, eqb, List, [], ◌∷◌, length, refl, sym, ◌∙◌, ap, subst, arith}
use Rattle.std.specs.Prelude.{flat_map, ◌↔◌, IsTrue}
use Rattle.std.specs.List.{AllByRecursion, concat, list_any}
use Rattle.std.proofs.lemmas.List.{length-append}
use Rattle.std.proofs.lemmas.List.Concat.{concat_is}
use Rattle.std.proofs.lemmas.List.Folds.{list_any-append}
use Rattle.re_labels.proofs.Replacing.{IsLabelSet-support_of, has-support_of}
use Rattle.re_labels.specs.Configs.{IsConfig, support_of}
use Rattle.re_given_bounds.specs.Telling.{TellsConfig}
use Rattle.re_labels.proofs.Membership.{AllByRecursion-contains, AllByRecursion-from_contains, Contains-flat_map_cases}
use Rattle.re_labels.proofs.Numbers.{same_labels}
use Rattle.re_labels.proofs.Tests.{eqb-same, eqb-true}
use Rattle.re_labels.specs.Sets.{IsLabelSet, has}
use Rattle.re_labels.specs.Constraints.{Constraint, IsConstraint}

length-flat : (d n : ℕ) (configs : List (List ℕ)) → AllByRecursion (IsConfig d n) configs → length (flat_map (λ c. c) configs) ≡ length configs * d
length-flat d n [] all = omega arith
length-flat d n (c ∷ configs) all =
    let rest : length (flat_map (λ c. c) configs) ≡ length configs * d = length-flat d n configs all.1 in
    length-append c (flat_map (λ c. c) configs) ∙ (rw (all.0.count, rest) (omega arith))

has-flat : (configs : List (List ℕ)) (x : ℕ) → has (flat_map (λ c. c) configs) x ≡ list_any (λ config. has config x) configs
has-flat [] x = refl
has-flat (c ∷ configs) x = list_any-append (λ y. eqb y x) c (flat_map (λ c. c) configs) ∙ ap (λ b. has c x || b) (has-flat configs x)

module _ (n : ℕ) (constraint : Constraint) (is : IsConstraint n constraint) where
  below : AllByRecursion (λ x. x < n) (flat_map (λ c. c) constraint.configs)
  below = AllByRecursion-from_contains (λ x. x < n) (flat_map (λ c. c) constraint.configs) (λ x held.
      let (config, at, inside) = Contains-flat_map_cases (λ (c : List ℕ). c) constraint.configs x held in
      AllByRecursion-contains (λ x. x < n) config x (AllByRecursion-contains (IsConfig constraint.degree n) constraint.configs config is.configs at).below inside)

  pub length-places : length (concat constraint.configs) ≡ length constraint.configs * constraint.degree
  length-places = ap (λ (l : List ℕ). length l) (concat_is constraint.configs) ∙ length-flat constraint.degree n constraint.configs is.configs

  -- the labels that stand in the configurations
  pub support_is : (labels : List ℕ) → IsLabelSet n labels → ((x : ℕ) → has labels x ≡ list_any (λ config. has config x) constraint.configs) → labels ≡ support_of (concat constraint.configs)
  support_is labels set held =
      subst (λ (l : List ℕ). labels ≡ support_of l) (sym (concat_is constraint.configs))
      (same_labels labels (support_of (flat_map (λ c. c) constraint.configs)) set.0 (IsLabelSet-support_of n (flat_map (λ c. c) constraint.configs) below).0
      (λ x h. sym (alike x) ∙ h) (λ x h. alike x ∙ h))
    where
      alike : (x : ℕ) → has labels x ≡ has (support_of (flat_map (λ c. c) constraint.configs)) x
      alike x = held x ∙ sym (has-support_of (flat_map (λ c. c) constraint.configs) x ∙ has-flat constraint.configs x)

  pub told_by_count : (labels : List ℕ) (places : ℕ) (told : Bool) → IsLabelSet n labels → ((x : ℕ) → has labels x ≡ list_any (λ config. has config x) constraint.configs)
      → places ≡ length constraint.configs * constraint.degree → told ≡ eqb (length labels) places → IsTrue told ↔ TellsConfig constraint
  told_by_count labels places told set held count is_told =
      let same : labels ≡ support_of (concat constraint.configs) = support_is labels set held in (
        λ t. sym (ap (λ (l : List ℕ). length l) same) ∙ eqb-true (length labels) places (sym is_told ∙ t) ∙ count ∙ sym length-places,
        λ tells. let full : length labels ≡ places = ap (λ (l : List ℕ). length l) same ∙ tells ∙ length-places ∙ sym count in
            is_told ∙ subst (λ p. eqb (length labels) p ≡ true) full (eqb-same (length labels)),
      )
