-- What a renaming does with labels, configurations and sums over them.
use Rattle.std.proofs.Common.{◌≡◌, ℕ, zero, suc, ◌<◌, List, [], ◌∷◌, length, map, get_or, refl, sym, ap, ◌∙◌, subst, arith, inl, inr}
use Rattle.std.specs.List.{AllByRecursion, sum_by}
use Rattle.std.proofs.lemmas.List.{length-map}
use Rattle.re_labels.proofs.Sorting.{Rearranged-sorted, inserted_low}
use Rattle.re_labels.proofs.Rearranging.{Rearranged-sym}
use Rattle.re_labels.specs.Configs.{IsConfig, image_at, image_of}
use Rattle.re_labels.specs.Rearranging.{Rearranged, chained, kept, swapped, unmoved}
use Rattle.re_labels.proofs.Before.{IsBefore-head}
use Rattle.re_labels.proofs.ListSets.{In-list_set, list_set-In, one_set, rising-list_set}
use Rattle.re_labels.proofs.Membership.{AllByRecursion-In, AllByRecursion-from_In, Contains-In, In, In-map, In-map_from}
use Rattle.re_labels.proofs.Numbers.{IsLabelSet-count_from}
use Rattle.re_labels.proofs.Rising.{rising-map}
use Rattle.re_labels.specs.Lists.{IsBefore, count_from}
use Rattle.re_problem.proofs.RisingLists.{images-many}
use Rattle.re_problem.proofs.VerdictLaws.{renames_law}
use Rattle.re_problem.specs.NamedProblems.{IsNamedProblem, NamedProblem, OccursIn, unnamed}
use Rattle.re_problem.specs.Steps.{IsRenamed}
use Rattle.re_labels.specs.Constraints.{Constraint, IsConstraint, images_of}
use Rattle.re_changes.proofs.OneChange.{below-counted, counted-below}
use Rattle.re_shaping.specs.Renamings.{IsRenaming}
use Rattle.re_shaping.proofs.Sums.{sum-list_set, sum_by-Rearranged, sum_by-alike, sum_by-map}

pub In-Rearranged : {X : Type 0} (x : X) {xs ys : List X} → Rearranged xs ys → In x xs → In x ys
In-Rearranged x unmoved held = held
In-Rearranged x (kept p) held = elim held [ inl e ↦ inl e | inr later ↦ inr (In-Rearranged x p later) ]
In-Rearranged x swapped held = elim held [ inl e ↦ inr (inl e) | inr later ↦ elim later [ inl e ↦ inl e | inr last ↦ inr (inr last) ] ]
In-Rearranged x (chained p q) held = In-Rearranged x q (In-Rearranged x p held)

-- a sum over the image of a configuration
pub sum-image : (f : ℕ → ℕ) (images config : List ℕ) → sum_by f (image_of images config) ≡ sum_by (λ x. f (image_at images x)) config
sum-image f images config = sym (sum_by-Rearranged f (Rearranged-sorted (map (image_at images) config))) ∙ sum_by-map f (image_at images) config

-- a sum over the images of configurations, where different labels have different images
pub sum-images : (images : List ℕ) → ((x y : ℕ) → x < length images → y < length images → image_at images x ≡ image_at images y → x ≡ y) → (constraint : Constraint) → IsConstraint (length images) constraint
    → (f : List ℕ → ℕ) → sum_by f (images_of images constraint) ≡ sum_by (λ config. f (image_of images config)) constraint.configs
sum-images images apart constraint is f =
    let many = images-many images apart constraint is in
    sum-list_set f (map (image_of images) constraint.configs) (omega (arith, many, length-map constraint.configs (image_of images)))
    ∙ sum_by-map f (image_of images) constraint.configs

-- ---- a configuration for each label, so that what holds of configurations holds of labels
double : ℕ → List ℕ
double x = x ∷ x ∷ []

doubles : ℕ → Constraint
unfolding double
doubles n = record { degree = 2; configs = map double (count_from 0 n) }

IsConstraint-doubles : (n : ℕ) → IsConstraint n (doubles n)
unfolding double doubles
IsConstraint-doubles n = record {
  least = omega arith;
  most = omega arith;
  configs = AllByRecursion-from_In (IsConfig 2 n) (map double (count_from 0 n)) (λ config held. is_config config (In-map_from double config (count_from 0 n) held));
  ascends = rising-map (λ x y. x < y) IsBefore double (count_from 0 n) (λ x y i j below. IsBefore-head x y (x ∷ []) (y ∷ []) below) (IsLabelSet-count_from 0 n n (omega arith)).0;
}
  where
    is_config : (config : List ℕ) → (x : ℕ) × In x (count_from 0 n) × (config ≡ double x) → IsConfig 2 n config
    is_config config found =
        let below = below-counted n found.0 found.1 in
        subst (IsConfig 2 n) (sym found.2) (record { count = refl; below = (below, (below, tt)); ascends = (omega arith, tt) })

image-double : (images : List ℕ) (x : ℕ) → image_of images (double x) ≡ double (image_at images x)
unfolding double
image-double images x = inserted_low (image_at images x) (image_at images x) [] (omega arith)

head : List ℕ → ℕ
head labels = get_or labels 0 0

-- ---- what a renaming is for labels and configurations
pub record Moves (from to : NamedProblem) (images : List ℕ) : Type 0 where
  pub count : length images ≡ length from.names
  pub below : (x : ℕ) → x < length from.names → image_at images x < length to.names
  pub apart : (x y : ℕ) → x < length images → y < length images → image_at images x ≡ image_at images y → x ≡ y
  pub onto : (y : ℕ) → y < length to.names → (x : ℕ) × (x < length from.names) × (image_at images x ≡ y)
  pub is_active : IsConstraint (length images) from.active
  pub is_passive : IsConstraint (length images) from.passive
  pub active : images_of images from.active ≡ to.active.configs
  pub passive : images_of images from.passive ≡ to.passive.configs

all-at : (P : ℕ → Type 0) (xs : List ℕ) → AllByRecursion P xs → (k : ℕ) → k < length xs → P (get_or xs k 0)
all-at P [] all k below = absurd (omega arith)
all-at P (x ∷ xs) all zero below = all.0
all-at P (x ∷ xs) all (suc k) below = all-at P xs all.1 k (omega arith)

-- a label of an image is the image of a label
occurs-image : (n : ℕ) (images : List ℕ) (from to : Constraint) → IsConstraint n from → images_of images from ≡ to.configs → (y : ℕ) → OccursIn to y → (x : ℕ) × (x < n) × (image_at images x ≡ y)
occurs-image n images from to is same y occurs =
    let there : In occurs.0 (images_of images from) = subst (In occurs.0) (sym same) (Contains-In occurs.0 to.configs occurs.1) in
    let found = In-map_from (image_of images) occurs.0 from.configs (In-list_set (map (image_of images) from.configs) occurs.0 there) in
    let held : In y (image_of images found.0) = subst (In y) found.2 (Contains-In y occurs.0 occurs.2) in
    let moved = In-map_from (image_at images) y found.0 (In-Rearranged y (Rearranged-sym (Rearranged-sorted (map (image_at images) found.0))) held) in
    let config : IsConfig from.degree n found.0 = AllByRecursion-In (IsConfig from.degree n) from.configs found.0 is.configs found.1 in
    (moved.0, AllByRecursion-In (λ x. x < n) found.0 moved.0 config.below moved.1, sym moved.2)

pub moves : (from to : NamedProblem) (images : List ℕ) → IsNamedProblem from → IsNamedProblem to → IsRenaming from to images → Moves from to images
moves from to images is other renaming =
    let renamed : IsRenamed (unnamed from) (unnamed to) images = (renames_law (unnamed from) (unnamed to) images is.problem other.problem renaming.count).0 renaming.renames in
    record {
      count = renaming.count;
      below = λ x l. all-at (λ image. image < length to.names) images renaming.labels x (subst (λ n. x < n) (sym renaming.count) l);
      apart = λ x y lx ly. renamed.apart x y (subst (λ n. x < n) renaming.count lx) (subst (λ n. y < n) renaming.count ly);
      onto = λ y l. elim (other.occur y l) [
        | inl active ↦ occurs-image (length from.names) images from.active to.active is.problem.active renamed.active y active
        | inr passive ↦ occurs-image (length from.names) images from.passive to.passive is.problem.passive renamed.passive y passive
      ];
      is_active = subst (λ n. IsConstraint n from.active) (sym renaming.count) is.problem.active;
      is_passive = subst (λ n. IsConstraint n from.passive) (sym renaming.count) is.problem.passive;
      active = renamed.active;
      passive = renamed.passive;
    }

-- a sum over all labels
pub sum-labels : (from to : NamedProblem) (images : List ℕ) → Moves from to images → (f : ℕ → ℕ)
    → sum_by f (count_from 0 (length to.names)) ≡ sum_by (λ x. f (image_at images x)) (count_from 0 (length from.names))
unfolding double doubles head
sum-labels from to images move f =
    sym (sum_by-map (λ config. f (head config)) double (count_from 0 (length to.names)))
    ∙ ap (sum_by (λ config. f (head config))) (sym whole)
    ∙ sum-images images move.apart (doubles (length images)) (IsConstraint-doubles (length images)) (λ config. f (head config))
    ∙ sum_by-map (λ config. f (head (image_of images config))) double (count_from 0 (length images))
    ∙ sum_by-alike (λ x. f (head (image_of images (double x)))) (λ x. f (image_at images x)) (count_from 0 (length images)) (λ x held. ap (λ config. f (head config)) (image-double images x))
    ∙ ap (λ n. sum_by (λ x. f (image_at images x)) (count_from 0 n)) move.count
  where
    within : (z : List ℕ) → In z (images_of images (doubles (length images))) → In z (map double (count_from 0 (length to.names)))
    within z held =
        let found = In-map_from (image_of images) z (map double (count_from 0 (length images))) (In-list_set (map (image_of images) (map double (count_from 0 (length images)))) z held) in
        let label = In-map_from double found.0 (count_from 0 (length images)) found.1 in
        let e : z ≡ double (image_at images label.0) = found.2 ∙ ap (image_of images) label.2 ∙ image-double images label.0 in
        let below : image_at images label.0 < length to.names = move.below label.0 (subst (λ n. label.0 < n) move.count (below-counted (length images) label.0 label.1)) in
        subst (λ w. In w (map double (count_from 0 (length to.names)))) (sym e) (In-map double (image_at images label.0) (count_from 0 (length to.names)) (counted-below (length to.names) (image_at images label.0) below))

    back : (z : List ℕ) → In z (map double (count_from 0 (length to.names))) → In z (images_of images (doubles (length images)))
    back z held =
        let label = In-map_from double z (count_from 0 (length to.names)) held in
        let source = move.onto label.0 (below-counted (length to.names) label.0 label.1) in
        let e : image_of images (double source.0) ≡ z = image-double images source.0 ∙ ap double source.2 ∙ sym label.2 in
        let there : In (double source.0) (map double (count_from 0 (length images))) = In-map double source.0 (count_from 0 (length images)) (counted-below (length images) source.0 (subst (λ n. source.0 < n) (sym move.count) source.1)) in
        list_set-In (map (image_of images) (map double (count_from 0 (length images)))) z
        (subst (λ w. In w (map (image_of images) (map double (count_from 0 (length images))))) e (In-map (image_of images) (double source.0) (map double (count_from 0 (length images))) there))

    whole : images_of images (doubles (length images)) ≡ map double (count_from 0 (length to.names))
    whole = one_set (images_of images (doubles (length images))) (map double (count_from 0 (length to.names)))
        (rising-list_set (map (image_of images) (map double (count_from 0 (length images))))) (IsConstraint-doubles (length to.names)).ascends within back
