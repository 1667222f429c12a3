-- The problem of the images of a map of a problem into itself.
use Rattle.std.proofs.Common.{◌≡◌, ℕ, ◌+◌, ◌<◌, ◌≤◌, List, length, map, get_or, ◌⊎◌, inl, inr, refl, sym, ap, ◌∙◌, subst, arith, ◌↔◌}
use Rattle.std.specs.Prelude.{Contains}
use Rattle.std.specs.List.{AllByRecursion}
use Rattle.std.proofs.lemmas.List.{get_or-map, map-id}
use Rattle.re_changes.proofs.Counted.{length-map_counted}
use Rattle.re_changes.proofs.Numbering.{at_number, number-low, renumbered-built}
use Rattle.re_changes.proofs.RenumberedProblems.{IsBuilt, built-along}
use Rattle.re_changes.specs.Renumbering.{number_among, renumbered}
use Rattle.re_labels.proofs.Rearranging.{Contains-Rearranged, Rearranged-sym}
use Rattle.re_labels.proofs.Replacing.{IsLabelSet-support_of, has-support_of}
use Rattle.re_labels.proofs.Sorting.{Rearranged-sorted}
use Rattle.re_labels.specs.Configs.{IsConfig, image_at, sorted}
use Rattle.re_changes.proofs.KeptRounds.{Solvable-renumbered}
use Rattle.re_check.proofs.Telling.{held-read, read-held}
use Rattle.re_labels.proofs.Before.{IsBefore-trans}
use Rattle.re_labels.proofs.Membership.{AllByRecursion-contains, AllByRecursion-from_In, AllByRecursion-from_contains, Contains-In, Contains-filter, Contains-filter_cases, Contains-map, Contains-map_cases, In, In-Contains, In-filter_from, In-map_from, count_from_range, get_or-count_from, length-count_from, map-alike}
use Rattle.re_labels.proofs.Rising.{rising-filter}
use Rattle.re_labels.proofs.Sets.{IsIn-has, IsWithin-within, has-IsIn, within-IsWithin}
use Rattle.re_labels.specs.Lists.{IsBefore, count_from}
use Rattle.re_labels.specs.Sets.{IsIn, IsLabelSet, has, within}
use Rattle.re_labels.specs.declared.TheConstants.{MAX_LABELS}
use Rattle.re_laws.proofs.Relaxing.{Solvable-relaxed}
use Rattle.re_laws.specs.Algorithms.{Solvable}
use Rattle.re_problem.specs.NamedProblems.{IsNamedProblem, NamedProblem, OccursIn, unnamed}
use Rattle.re_problem.specs.Problems.{IsProblem}
use Rattle.re_labels.proofs.ConstraintImages.{config-below, itself-held}
use Rattle.re_labels.specs.Constraints.{Constraint, Has, IsConstraint}
use Rattle.re_bridge.proofs.MapTests.{counted-set}
use Rattle.re_bridge.specs.Reductions.{IsEndomorphism, constraint_within, image_set, problem_within}

-- ---- the constraints
pub IsConstraint-within : (labels : List ℕ) (constraint : Constraint) (n : ℕ) → IsConstraint n constraint → IsConstraint n (constraint_within labels constraint)
IsConstraint-within labels constraint n is = record {
  least = is.least;
  most = is.most;
  configs = AllByRecursion-from_contains (IsConfig constraint.degree n) (constraint_within labels constraint).configs (λ config held.
      AllByRecursion-contains (IsConfig constraint.degree n) constraint.configs config is.configs (Contains-filter_cases (λ config. within config labels) constraint.configs config held).0);
  ascends = rising-filter IsBefore IsBefore-trans (λ config. within config labels) constraint.configs is.ascends;
}

-- the problem before its labels are numbered anew
abbrev pub old_numbers : List ℕ → NamedProblem → NamedProblem
old_numbers labels named = record { names = named.names; active = constraint_within labels named.active; passive = constraint_within labels named.passive }

-- the new numbers
abbrev pub numbers : List ℕ → ℕ → List ℕ
numbers labels n = map (number_among labels) (count_from 0 n)

pub number-at : (labels : List ℕ) (n x : ℕ) → x < n → image_at (numbers labels n) x ≡ number_among labels x
number-at labels n x l =
    let m : x < length (count_from 0 n) = omega (arith, length-count_from 0 n) in
    let z : 0 + x ≡ x = omega arith in
    get_or-map (number_among labels) (count_from 0 n) x 0 0 m ∙ ap (number_among labels) (get_or-count_from 0 n x 0 l ∙ z)

-- a label of a configuration that stays is among the labels
label-stays : (labels : List ℕ) (n : ℕ) (constraint : Constraint) → IsConstraint n constraint → (config : List ℕ) (x : ℕ) → In config (constraint_within labels constraint).configs → In x config → (x < n) × In x labels
label-stays labels n constraint c config x i j =
    let two = In-filter_from (λ config. within config labels) config constraint.configs i in
    (config-below n constraint c config x two.0 j, Contains-In x labels (within-IsWithin config labels two.1 x (In-Contains x config j)))

module _ (named : NamedProblem) (is : IsNamedProblem named) (images : List ℕ) (maps : IsEndomorphism named images) where
  pub images-set : IsLabelSet (length named.names) (image_set images)
  images-set = IsLabelSet-support_of (length named.names) images maps.assignment.1

  -- ---- the images of configurations stay
  image-stays : (y : ℕ) → y < length named.names → IsIn (image_at images y) (image_set images)
  image-stays y l =
      let m : y < length images = (let count = maps.assignment.0 in omega arith) in
      has-IsIn (image_set images) (image_at images y) (has-support_of images (image_at images y) ∙ IsIn-has images (image_at images y) (read-held images y 0 m))

  image-within : (constraint : Constraint) → IsConstraint (length named.names) constraint → ((config : List ℕ) → Contains constraint.configs config → Has constraint (map (image_at images) config))
      → (config : List ℕ) → Contains constraint.configs config → Has (constraint_within (image_set images) constraint) (map (image_at images) config)
  image-within constraint c held config at =
      Contains-filter (λ config. within config (image_set images)) constraint.configs (sorted (map (image_at images) config)) (held config at)
      (IsWithin-within (sorted (map (image_at images) config)) (image_set images) (λ x i.
      let (y, j, e) = Contains-map_cases (image_at images) config x (Contains-Rearranged x (Rearranged-sym (Rearranged-sorted (map (image_at images) config))) i) in
      subst (λ z. IsIn z (image_set images)) e (image-stays y (config-below (length named.names) constraint c config y (Contains-In config constraint.configs at) (Contains-In y config j)))))

  -- so each image stands in one
  image-occurs : (constraint : Constraint) → IsConstraint (length named.names) constraint → ((config : List ℕ) → Contains constraint.configs config → Has constraint (map (image_at images) config))
      → (y : ℕ) → OccursIn constraint y → OccursIn (constraint_within (image_set images) constraint) (image_at images y)
  image-occurs constraint c held y (config, at, i) = (
    sorted (map (image_at images) config),
    image-within constraint c held config at,
    Contains-Rearranged (image_at images y) (Rearranged-sorted (map (image_at images) config)) (Contains-map (image_at images) config y i),
  )

  occur : (x : ℕ) → In x (image_set images) → OccursIn (constraint_within (image_set images) named.active) x ⊎ OccursIn (constraint_within (image_set images) named.passive) x
  occur x i =
      let there : IsIn x images = has-IsIn images x (sym (has-support_of images x) ∙ IsIn-has (image_set images) x (In-Contains x (image_set images) i)) in
      let (y, l, at) = held-read images x 0 there in
      let m : y < length named.names = (let count = maps.assignment.0 in omega arith) in
      subst (λ z. OccursIn (constraint_within (image_set images) named.active) z ⊎ OccursIn (constraint_within (image_set images) named.passive) z) at
      (elim (is.occur y m) [
        | inl o ↦ inl (image-occurs named.active is.problem.active maps.relaxed.active y o)
        | inr o ↦ inr (image-occurs named.passive is.problem.passive maps.relaxed.passive y o)
      ])

  -- ---- the problem is built
  below-stay : (constraint : Constraint) → IsConstraint (length named.names) constraint → (config : List ℕ) (x : ℕ) → In config (constraint_within (image_set images) constraint).configs → In x config
      → image_at (numbers (image_set images) (length named.names)) x < length (image_set images)
  below-stay constraint c config x i j =
      let (l, stays) = label-stays (image_set images) (length named.names) constraint c config x i j in
      subst (λ k. k < length (image_set images)) (sym (number-at (image_set images) (length named.names) x l)) (at_number (image_set images) x images-set.0 stays).0

  pub within-built : IsBuilt (image_set images) (numbers (image_set images) (length named.names)) (old_numbers (image_set images) named)
  within-built =
      renumbered-built (image_set images) (numbers (image_set images) (length named.names)) (old_numbers (image_set images) named) images-set.0
      (below-stay named.active is.problem.active) (below-stay named.passive is.problem.passive)
      (λ x i. number-at (image_set images) (length named.names) x (AllByRecursion-contains (λ x. x < length named.names) (image_set images) x images-set.1 (In-Contains x (image_set images) i)))
      occur

  -- ---- as many rounds
  IsProblem-old : IsProblem (unnamed (old_numbers (image_set images) named))
  IsProblem-old = record {
    active = IsConstraint-within (image_set images) named.active (length named.names) is.problem.active;
    passive = IsConstraint-within (image_set images) named.passive (length named.names) is.problem.passive;
  }

  back : (constraint : Constraint) → IsConstraint (length named.names) constraint → (config : List ℕ) → Contains (constraint_within (image_set images) constraint).configs config → Has constraint (map (λ x. x) config)
  back constraint c config held =
      subst (Has constraint) (sym (map-id config)) (itself-held (length named.names) constraint c config (Contains-filter_cases (λ config. within config (image_set images)) constraint.configs config held).0)

  Solvable-old : (T : ℕ) → Solvable (unnamed (old_numbers (image_set images) named)) T ↔ Solvable (unnamed named) T
  Solvable-old T = (
    Solvable-relaxed (unnamed (old_numbers (image_set images) named)) (unnamed named) (λ x. x) T IsProblem-old (record {
      active_degree = refl;
      passive_degree = refl;
      active = back named.active is.problem.active;
      passive = back named.passive is.problem.passive;
    }),
    Solvable-relaxed (unnamed named) (unnamed (old_numbers (image_set images) named)) (image_at images) T is.problem (record {
      active_degree = refl;
      passive_degree = refl;
      active = image-within named.active is.problem.active maps.relaxed.active;
      passive = image-within named.passive is.problem.passive maps.relaxed.passive;
    }),
  )

  same-held : (constraint : Constraint) → IsConstraint (length named.names) constraint → (config : List ℕ) → Contains (constraint_within (image_set images) constraint).configs config
      → Has (constraint_within (image_set images) constraint) (map (λ x. get_or (image_set images) (image_at (numbers (image_set images) (length named.names)) x) 0) config)
  same-held constraint c config held =
      subst (Has (constraint_within (image_set images) constraint)) (sym same) (itself-held (length named.names) (constraint_within (image_set images) constraint) (IsConstraint-within (image_set images) constraint (length named.names) c) config held)
    where
      same : map (λ x. get_or (image_set images) (image_at (numbers (image_set images) (length named.names)) x) 0) config ≡ config
      same =
          map-alike (λ x. get_or (image_set images) (image_at (numbers (image_set images) (length named.names)) x) 0) (λ x. x) config (λ x at.
          let (l, stays) = label-stays (image_set images) (length named.names) constraint c config x (Contains-In config (constraint_within (image_set images) constraint).configs held) (Contains-In x config at) in
          ap (λ k. get_or (image_set images) k 0) (number-at (image_set images) (length named.names) x l) ∙ (at_number (image_set images) x images-set.0 stays).1)
          ∙ map-id config

  pub Solvable-within : (T : ℕ) → Solvable (unnamed (problem_within (image_set images) named)) T ↔ Solvable (unnamed named) T
  Solvable-within T =
      let numbered = Solvable-renumbered (image_set images) (numbers (image_set images) (length named.names)) (old_numbers (image_set images) named) IsProblem-old
      (below-stay named.active is.problem.active) (below-stay named.passive is.problem.passive)
      (λ y. get_or (image_set images) y 0) (same-held named.active is.problem.active) (same-held named.passive is.problem.passive) T in
      let old = Solvable-old T in
      (λ h. old.0 (numbered.0 h), λ h. numbered.1 (old.1 h))

-- ---- what the program holds
-- the names, the labels that stay, the new numbers, and the constraints
pub record IsHeld (named : NamedProblem) (images : List ℕ) (names : List (List ℕ)) (stay new : List ℕ) (active passive : Constraint) : Type 0 where
  pub names_are : names ≡ named.names
  pub stay_is : stay ≡ image_set images
  pub new_are : new ≡ numbers (image_set images) (length named.names)
  pub active_is : active ≡ constraint_within (image_set images) named.active
  pub passive_is : passive ≡ constraint_within (image_set images) named.passive

module _ (named : NamedProblem) (images : List ℕ) (names : List (List ℕ)) (stay new : List ℕ) (active passive : Constraint) (is : IsNamedProblem named) (maps : IsEndomorphism named images)
    (held : IsHeld named images names stay new active passive) where
  pub held-stay : IsLabelSet (length names) stay
  held-stay = subst (λ n. IsLabelSet n stay) (sym (ap length held.names_are)) (subst (IsLabelSet (length named.names)) (sym held.stay_is) (images-set named is images maps))

  known : (constraint : Constraint) → IsConstraint (length named.names) constraint → (config : List ℕ) → In config (constraint_within (image_set images) constraint).configs → AllByRecursion (λ label. label < length new) config
  known constraint c config i = AllByRecursion-from_In (λ label. label < length new) config (λ x j.
      let l = (label-stays (image_set images) (length named.names) constraint c config x i j).0 in
      omega (arith, l, ap length held.new_are, length-map_counted (number_among (image_set images)) (length named.names)))

  pub held-active : AllByRecursion (AllByRecursion (λ label. label < length new)) active.configs
  held-active =
      subst (λ (c : Constraint). AllByRecursion (AllByRecursion (λ label. label < length new)) c.configs) (sym held.active_is)
      (AllByRecursion-from_In (AllByRecursion (λ label. label < length new)) (constraint_within (image_set images) named.active).configs (known named.active is.problem.active))

  pub held-passive : AllByRecursion (AllByRecursion (λ label. label < length new)) passive.configs
  held-passive =
      subst (λ (c : Constraint). AllByRecursion (AllByRecursion (λ label. label < length new)) c.configs) (sym held.passive_is)
      (AllByRecursion-from_In (AllByRecursion (λ label. label < length new)) (constraint_within (image_set images) named.passive).configs (known named.passive is.problem.passive))

  -- a new number is no more than the old one
  pub held-below : AllByRecursion (λ image. image < MAX_LABELS) new
  held-below =
      subst (AllByRecursion (λ image. image < MAX_LABELS)) (sym held.new_are)
      (AllByRecursion-from_In (λ image. image < MAX_LABELS) (numbers (image_set images) (length named.names)) (λ image i.
      let (x, j, e) = In-map_from (number_among (image_set images)) image (count_from 0 (length named.names)) i in
      let range = count_from_range 0 (length named.names) x (In-Contains x (count_from 0 (length named.names)) j) in
      let low : number_among (image_set images) x ≤ x
      = subst (λ s. number_among s x ≤ x) (counted-set (length named.names) (image_set images) (images-set named is images maps)) (number-low (has (image_set images)) (length named.names) x) in
      omega (arith, e, low, range.1, is.names.few)))

  pub held-built : IsBuilt stay new (record { names = names; active = active; passive = passive })
  held-built = built-along (image_set images) stay (numbers (image_set images) (length named.names)) new (old_numbers (image_set images) named) (record { names = names; active = active; passive = passive })
      held.stay_is held.new_are (λ i. record { names = held.names_are i; active = held.active_is i; passive = held.passive_is i }) (within-built named is images maps)

  pub held-whole : renumbered stay new (record { names = names; active = active; passive = passive }) ≡ problem_within (image_set images) named
  held-whole = λ i. renumbered (held.stay_is i) (held.new_are i) (record { names = held.names_are i; active = held.active_is i; passive = held.passive_is i })
