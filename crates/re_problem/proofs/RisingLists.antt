-- Lists of lists in strictly ascending order, by what they hold.
use Rattle.re_labels.proofs.Searching.{tail_rises}
use Rattle.re_problem.proofs.NewNumbers.{head_first}
use Rattle.std.proofs.Common.{◌≡◌, ℕ, ◌<◌, ◌≤◌, eqb, List, [], ◌∷◌, length, map, refl, sym, ap, ◌∙◌, subst, arith, inl, inr}
use Rattle.std.specs.List.{AllByRecursion, position_or_len}
use Rattle.std.proofs.lemmas.List.{length-map}
use Rattle.std.proofs.lemmas.List.Sums.{position_or_len_is}
use Rattle.re_labels.proofs.Sorting.{sorted_again, sorted_map}
use Rattle.re_labels.specs.Configs.{IsConfig, image_at, image_of, sorted}
use Rattle.re_labels.proofs.Before.{IsBefore-apart, IsBefore-trans}
use Rattle.re_labels.proofs.ListSets.{In-list_set, list_set-In, list_set_map, one_set, rising-list_set}
use Rattle.re_labels.proofs.Membership.{In}
use Rattle.re_labels.proofs.Tests.{eqb-apart, eqb-same}
use Rattle.re_labels.specs.Lists.{IsBefore, IsRising}
use Rattle.re_labels.specs.ListSets.{list_set}
use Rattle.re_problem.proofs.ListSizes.{length-list_set}
use Rattle.re_problem.proofs.StepLaws.{map-map}
use Rattle.re_labels.specs.Constraints.{Constraint, IsConstraint, images_of}

-- each of a rising list that stands behind x is among ys, where it is x or among ys
behind_head : (x : List ℕ) (xs ys : List (List ℕ)) (y : List ℕ) → IsRising IsBefore (x ∷ xs) → x ≡ y → ((z : List ℕ) → In z (x ∷ xs) → In z (y ∷ ys)) → (z : List ℕ) → In z xs → In z ys
behind_head x xs ys y rising same within z held = elim (within z (inr held)) [
  | inl e ↦ absurd (IsBefore-apart x (subst (IsBefore x) (e ∙ sym same) (head_first x xs z rising held)))
  | inr there ↦ there
]

-- where the head of xs stands behind y, all of xs do
all_behind : (x : List ℕ) (xs ys : List (List ℕ)) (y : List ℕ) → IsRising IsBefore (x ∷ xs) → IsRising IsBefore (y ∷ ys) → In x ys → ((z : List ℕ) → In z (x ∷ xs) → In z (y ∷ ys)) → (z : List ℕ) → In z (x ∷ xs) → In z ys
all_behind x xs ys y rising other there within z held = elim (within z held) [
  | inr later ↦ later
  | inl e ↦ absurd (elim held [
    | inl f ↦ IsBefore-apart y (subst (IsBefore y) (sym f ∙ e) (head_first y ys x other there))
    | inr later ↦ IsBefore-apart y (IsBefore-trans y x y (head_first y ys x other there) (subst (IsBefore x) e (head_first x xs z rising later)))
  ])
]

-- a rising list within another one is no longer
pub rising-fits : (xs ys : List (List ℕ)) → IsRising IsBefore xs → IsRising IsBefore ys → ((z : List ℕ) → In z xs → In z ys) → length xs ≤ length ys
rising-fits [] ys rising other within = omega arith
rising-fits (x ∷ xs) [] rising other within = absurd (within x (inl refl))
rising-fits (x ∷ xs) (y ∷ ys) rising other within = elim (within x (inl refl)) [
  | inl same ↦ let shorter : length xs ≤ length ys = rising-fits xs ys (tail_rises x xs rising) (tail_rises y ys other) (behind_head x xs ys y rising same within) in omega (arith, shorter)
  | inr there ↦ let shorter : length (x ∷ xs) ≤ length ys = rising-fits (x ∷ xs) ys rising (tail_rises y ys other) (all_behind x xs ys y rising other there within) in omega (arith, shorter)
]

-- a rising list within another one that isn't longer is the same
pub rising-whole : (xs ys : List (List ℕ)) → IsRising IsBefore xs → IsRising IsBefore ys → ((z : List ℕ) → In z xs → In z ys) → length ys ≤ length xs → xs ≡ ys
rising-whole [] [] rising other within few = refl
rising-whole [] (y ∷ ys) rising other within few = absurd (omega arith)
rising-whole (x ∷ xs) [] rising other within few = absurd (within x (inl refl))
rising-whole (x ∷ xs) (y ∷ ys) rising other within few = elim (within x (inl refl)) [
  | inl same ↦
      let rest : xs ≡ ys = rising-whole xs ys (tail_rises x xs rising) (tail_rises y ys other) (behind_head x xs ys y rising same within) (omega arith) in
      (λ i. same i ∷ rest i)
  | inr there ↦ absurd (let fits : length (x ∷ xs) ≤ length ys = rising-fits (x ∷ xs) ys rising (tail_rises y ys other) (all_behind x xs ys y rising other there within) in omega (arith, fits))
]

-- ---- images under a map that gives different labels different images
-- the label of an image
label_of_image : List ℕ → ℕ → ℕ
label_of_image images image = position_or_len (λ other. eqb other image) images

module _ (images : List ℕ) (apart : (x y : ℕ) → x < length images → y < length images → image_at images x ≡ image_at images y → x ≡ y) where
  label_back : (x : ℕ) → x < length images → label_of_image images (image_at images x) ≡ x
  unfolding label_of_image
  label_back x l = position_or_len_is (λ other. eqb other (image_at images x)) images x 0 (omega arith)
      (λ k h. eqb-apart (image_at images k) (image_at images x) (λ same. let e : k ≡ x = apart k x (omega arith) l same in omega arith))
      (λ h. eqb-same (image_at images x))

  labels_back : (config : List ℕ) → AllByRecursion (λ x. x < length images) config → map (λ x. label_of_image images (image_at images x)) config ≡ config
  labels_back [] below = refl
  labels_back (x ∷ config) below = λ i. label_back x below.0 i ∷ labels_back config below.1 i

  back : List ℕ → List ℕ
  back config = sorted (map (label_of_image images) config)

  config_back : (degree : ℕ) (config : List ℕ) → IsConfig degree (length images) config → back (image_of images config) ≡ config
  unfolding back
  config_back degree config is =
      sorted_map (label_of_image images) (map (image_at images) config) ∙ ap sorted (map-map (label_of_image images) (image_at images) config ∙ labels_back config is.below)
      ∙ sorted_again config is.ascends

  configs_back : (degree : ℕ) (configs : List (List ℕ)) → AllByRecursion (IsConfig degree (length images)) configs → map (λ config. back (image_of images config)) configs ≡ configs
  configs_back degree [] are = refl
  configs_back degree (config ∷ configs) are = λ i. config_back degree config are.0 i ∷ configs_back degree configs are.1 i

  -- there are as many images as configurations
  pub images-many : (constraint : Constraint) → IsConstraint (length images) constraint → length constraint.configs ≤ length (images_of images constraint)
  images-many constraint is =
      let whole : list_set (map back (images_of images constraint)) ≡ constraint.configs =
      list_set_map back (map (image_of images) constraint.configs)
      ∙ ap list_set (map-map back (image_of images) constraint.configs ∙ configs_back constraint.degree constraint.configs is.configs)
      ∙ one_set (list_set constraint.configs) constraint.configs (rising-list_set constraint.configs) is.ascends (In-list_set constraint.configs) (list_set-In constraint.configs) in
      let e = ap length whole in
      omega (arith, e, length-list_set (map back (images_of images constraint)), length-map (images_of images constraint) back)

-- there are no more images than configurations
pub images-few : (images : List ℕ) (constraint : Constraint) → length (images_of images constraint) ≤ length constraint.configs
images-few images constraint = omega (arith, length-list_set (map (image_of images) constraint.configs), length-map constraint.configs (image_of images))
