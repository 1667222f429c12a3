-- The images of the configurations of a constraint, and the way back from them.
use Rattle.std.proofs.Common.{List, ap, length, map, not, subst, sym, ℕ, ◌<◌, ◌==◌, ◌∙◌, ◌≡◌}
use Rattle.std.specs.Prelude.{Contains}
use Rattle.std.specs.List.{AllByRecursion, list_any}
use Rattle.std.proofs.lemmas.Simd.{map-map}
use Rattle.re_labels.proofs.Rearranging.{Rearranged-sym}
use Rattle.re_labels.proofs.Sorting.{AllByRecursion-Rearranged, IsConfig-sorted, Rearranged-sorted, length-sorted, sorted_again, sorted_map}
use Rattle.re_labels.specs.Configs.{IsConfig, image_at, image_of, sorted}
use Rattle.re_labels.proofs.ListSets.{In-list_set, list_set-In, rising-list_set}
use Rattle.re_labels.proofs.Membership.{AllByRecursion-In, AllByRecursion-contains, AllByRecursion-from_In, AllByRecursion-from_contains, AllByRecursion-weaker, Contains-In, Contains-filter_cases, In, In-Contains, In-map, In-map_from, length-map'}
use Rattle.re_labels.specs.Constraints.{Constraint, Has, IsConstraint, images_of}
use Rattle.re_labels.proofs.Before.{IsBefore-trans}
use Rattle.re_labels.proofs.Rising.{rising-filter}
use Rattle.re_labels.specs.Lists.{IsBefore}
use Rattle.re_labels.specs.Sets.{has}
use Rattle.re_labels.specs.Strength.{constraint_without}

-- the labels of a configuration are below the bound
pub config-below : (n : ℕ) (constraint : Constraint) → IsConstraint n constraint → (config : List ℕ) (x : ℕ) → In config constraint.configs → In x config → x < n
config-below n constraint is config x i j = AllByRecursion-In (λ x. x < n) config x (AllByRecursion-In (IsConfig constraint.degree n) constraint.configs config is.configs i).below j

pub configs-below : (n : ℕ) (constraint : Constraint) → IsConstraint n constraint → AllByRecursion (AllByRecursion (λ label. label < n)) constraint.configs
configs-below n constraint is = AllByRecursion-weaker (IsConfig constraint.degree n) (AllByRecursion (λ label. label < n)) (λ config (c : IsConfig constraint.degree n config). c.below) constraint.configs is.configs

-- a configuration is one
pub itself-held : (n : ℕ) (constraint : Constraint) → IsConstraint n constraint → (config : List ℕ) → Contains constraint.configs config → Has constraint config
itself-held n constraint is config held =
    subst (Contains constraint.configs) (sym (sorted_again config (AllByRecursion-contains (IsConfig constraint.degree n) constraint.configs config is.configs held).ascends)) held

-- the labels of a configuration, in any order
pub held_labels : (n : ℕ) (constraint : Constraint) (labels : List ℕ) → IsConstraint n constraint → Has constraint labels → (length labels ≡ constraint.degree) × AllByRecursion (λ x. x < n) labels
held_labels n constraint labels is has =
    let config : IsConfig constraint.degree n (sorted labels) = AllByRecursion-contains (IsConfig constraint.degree n) constraint.configs (sorted labels) is.configs has in
    (sym (length-sorted labels) ∙ config.count, AllByRecursion-Rearranged (λ x. x < n) (Rearranged-sym (Rearranged-sorted labels)) config.below)

module _ (images : List ℕ) (constraint : Constraint) where
  pub image-held : (config : List ℕ) → Contains constraint.configs config → Contains (images_of images constraint) (image_of images config)
  image-held config held = In-Contains (image_of images config) (images_of images constraint)
      (list_set-In (map (image_of images) constraint.configs) (image_of images config) (In-map (image_of images) config constraint.configs (Contains-In config constraint.configs held)))

  pub image-from : (config : List ℕ) → In config (images_of images constraint) → (c : List ℕ) × In c constraint.configs × (config ≡ image_of images c)
  image-from config i = In-map_from (image_of images) config constraint.configs (In-list_set (map (image_of images) constraint.configs) config i)

  -- labels that stand for the images lead back
  pub back-held : (back : ℕ → ℕ) → ((config : List ℕ) → Contains constraint.configs config → Has constraint (map (λ x. back (image_at images x)) config))
      → (config : List ℕ) → Contains (images_of images constraint) config → Has constraint (map back config)
  back-held back h config held =
      let (c, i, e) = image-from config (Contains-In config (images_of images constraint) held) in
      subst (Contains constraint.configs)
      (sym (ap (λ labels. sorted (map back labels)) e ∙ sorted_map back (map (image_at images) c) ∙ ap sorted (map-map back (image_at images) c)))
      (h c (In-Contains c constraint.configs i))

  -- where all images are below the bound, they are a constraint
  pub IsConstraint-image : (n m : ℕ) → IsConstraint n constraint → ((config : List ℕ) (x : ℕ) → In config constraint.configs → In x config → image_at images x < m)
      → IsConstraint m (record { degree = constraint.degree; configs = images_of images constraint })
  IsConstraint-image n m is below = record {
    least = is.least;
    most = is.most;
    configs = AllByRecursion-from_In (IsConfig constraint.degree m) (images_of images constraint) (λ config i. each config (image-from config i));
    ascends = rising-list_set (map (image_of images) constraint.configs);
  }
    where
      each : (config : List ℕ) → (c : List ℕ) × In c constraint.configs × (config ≡ image_of images c) → IsConfig constraint.degree m config
      each config (c, i, e) = subst (IsConfig constraint.degree m) (sym e)
          (IsConfig-sorted constraint.degree m (map (image_at images) c)
          (length-map' (image_at images) c ∙ (AllByRecursion-In (IsConfig constraint.degree n) constraint.configs c is.configs i).count)
          (AllByRecursion-from_In (λ x. x < m) (map (image_at images) c) (λ y j.
          let x = In-map_from (image_at images) y c j in subst (λ z. z < m) (sym x.2) (below c x.0 i x.1))))

-- ---- constraints without a label
pub IsConstraint-without : (constraint : Constraint) (n a : ℕ) → IsConstraint n constraint → IsConstraint n (constraint_without a constraint)
IsConstraint-without constraint n a is = record {
  least = is.least;
  most = is.most;
  configs = AllByRecursion-from_contains (IsConfig constraint.degree n) (constraint_without a constraint).configs (λ config held.
      AllByRecursion-contains (IsConfig constraint.degree n) constraint.configs config is.configs (Contains-filter_cases (λ config. not (list_any (λ x. x == a) config)) constraint.configs config held).0);
  ascends = rising-filter IsBefore IsBefore-trans (λ config. not (has config a)) constraint.configs is.ascends;
}
