-- Problems that relax to each other, and how few labels they have.
use Rattle.std.proofs.Common.{◌≡◌, ℕ, ◌+◌, ◌<◌, ◌≤◌, true, not, ltb, List, length, map, Some, None, refl, sym, ap, ◌∙◌, subst, arith, inl, inr}
use Rattle.std.specs.Prelude.{Contains, filter}
use Rattle.std.specs.List.{AllByRecursion}
use Rattle.std.proofs.lemmas.List.{get_or-map}
use Rattle.std.proofs.lemmas.List.Filters.{length-filter_both}
use Rattle.re_changes.proofs.Counted.{length-map_counted}
use Rattle.re_labels.proofs.Rearranging.{Contains-Rearranged, Rearranged-map, Rearranged-sym}
use Rattle.re_labels.proofs.Replacing.{has-support_of, IsLabelSet-support_of, length-support_of_most}
use Rattle.re_labels.proofs.Sorting.{Rearranged-sorted}
use Rattle.re_labels.specs.Configs.{image_at, sorted, support_of}
use Rattle.re_labels.proofs.Membership.{AllByRecursion-from_contains, Contains-In, Contains-count_from, Contains-filter, Contains-filter_cases, Contains-map, Contains-map_cases, count_from_range, get_or-count_from, length-count_from, length-map', map-alike}
use Rattle.re_labels.proofs.Numbers.{IsLabelSet-filter, same_labels}
use Rattle.re_labels.proofs.Sets.{IsIn-has, has-IsIn, has-filter}
use Rattle.re_labels.proofs.Tests.{and-true, below-true, true-and, true-below}
use Rattle.re_labels.specs.Lists.{count_from}
use Rattle.re_labels.specs.Sets.{IsLabelSet, has}
use Rattle.re_problem.proofs.StepLaws.{map-map}
use Rattle.re_problem.specs.NamedProblems.{IsNamedProblem, NamedProblem, OccursIn, unnamed}
use Rattle.re_problem.specs.Problems.{IsProblem, Problem}
use Rattle.re_problem.specs.Steps.{IsRelaxed}
use Rattle.re_labels.proofs.ConstraintImages.{config-below}
use Rattle.re_labels.proofs.Goodness.{Has-Rearranged}
use Rattle.re_labels.specs.Constraints.{Constraint, Has, IsConstraint}
use Rattle.re_walks.specs.Walking.{Walk, cut, found, nowhere}
use Rattle.re_bridge.proofs.FewestImages.{reduction_law}
use Rattle.re_bridge.specs.Reductions.{IsEndomorphism, LeastLabelsLaw, Reduces, image_set, problem_within, reduced_by, reduction}

-- ---- how many labels a set has
-- a set within another one has no more labels
within-shorter : (n : ℕ) (s t : List ℕ) → IsLabelSet n s → IsLabelSet n t → ((x : ℕ) → has s x ≡ true → has t x ≡ true) → length s ≤ length t
within-shorter n s t hs ht inside =
    let same : filter (has s) t ≡ s
    = same_labels (filter (has s) t) s (IsLabelSet-filter (has s) n t ht).0 hs.0
    (λ x c. (and-true (has t x) (has s x) (sym (has-filter (has s) t x) ∙ c)).1)
    (λ x c. has-filter (has s) t x ∙ true-and (has t x) (has s x) (inside x c) c) in
    subst (λ l. length l ≤ length t) same (omega (arith, length-filter_both (has s) (λ x. not (has s x)) (λ x. refl) t))

-- ---- there and back
module _ (named : NamedProblem) (other : Problem) (to back : ℕ → ℕ) (is : IsNamedProblem named) (is_other : IsProblem other) (there : IsRelaxed (unnamed named) other to) (again : IsRelaxed other (unnamed named) back) where
  -- a label of a configuration becomes a label of its image
  image-low : (m : ℕ) (constraint next : Constraint) (f : ℕ → ℕ) (x : ℕ) → IsConstraint m next → ((config : List ℕ) → Contains constraint.configs config → Has next (map f config)) → OccursIn constraint x → f x < m
  image-low m constraint next f x c held (config, at, i) =
      config-below m next c (sorted (map f config)) (f x) (Contains-In (sorted (map f config)) next.configs (held config at))
      (Contains-In (f x) (sorted (map f config)) (Contains-Rearranged (f x) (Rearranged-sorted (map f config)) (Contains-map f config x i)))

  round-held : (constraint middle : Constraint) → ((config : List ℕ) → Contains constraint.configs config → Has middle (map to config)) → ((config : List ℕ) → Contains middle.configs config → Has constraint (map back config))
      → (config : List ℕ) → Contains constraint.configs config → Has constraint (map (λ x. back (to x)) config)
  round-held constraint middle go_there go_back config at =
      subst (Has constraint) (map-map back to config) (Has-Rearranged constraint (Rearranged-map back (Rearranged-sym (Rearranged-sorted (map to config)))) (go_back (sorted (map to config)) (go_there config at)))

  to-low : (x : ℕ) → x < length named.names → to x < other.labels
  to-low x l = elim (is.occur x l) [
    | inl o ↦ image-low other.labels named.active other.active to x is_other.active there.active o
    | inr o ↦ image-low other.labels named.passive other.passive to x is_other.passive there.passive o
  ]

  round-low : (x : ℕ) → x < length named.names → back (to x) < length named.names
  round-low x l = elim (is.occur x l) [
    | inl o ↦ image-low (length named.names) named.active named.active (λ x. back (to x)) x is.problem.active (round-held named.active other.active there.active again.active) o
    | inr o ↦ image-low (length named.names) named.passive named.passive (λ x. back (to x)) x is.problem.passive (round-held named.passive other.passive there.passive again.passive) o
  ]

  abbrev images : List ℕ
  images = map (λ x. back (to x)) (count_from 0 (length named.names))

  image-is : (x : ℕ) → x < length named.names → image_at images x ≡ back (to x)
  image-is x l =
      let m : x < length (count_from 0 (length named.names)) = omega (arith, length-count_from 0 (length named.names)) in
      let z : 0 + x ≡ x = omega arith in
      get_or-map (λ x. back (to x)) (count_from 0 (length named.names)) x 0 0 m ∙ ap (λ y. back (to y)) (get_or-count_from 0 (length named.names) x 0 l ∙ z)

  images-held : (constraint : Constraint) → IsConstraint (length named.names) constraint → ((config : List ℕ) → Contains constraint.configs config → Has constraint (map (λ x. back (to x)) config))
      → (config : List ℕ) → Contains constraint.configs config → Has constraint (map (image_at images) config)
  images-held constraint c held config at =
      subst (Has constraint)
      (map-alike (λ x. back (to x)) (image_at images) config (λ x i. sym (image-is x (config-below (length named.names) constraint c config x (Contains-In config constraint.configs at) (Contains-In x config i)))))
      (held config at)

  images-low : AllByRecursion (λ label. label < length named.names) images
  images-low = AllByRecursion-from_contains (λ label. label < length named.names) images (λ y held.
      let (x, at, e) = Contains-map_cases (λ x. back (to x)) (count_from 0 (length named.names)) y held in
      let range = count_from_range 0 (length named.names) x at in
      subst (λ z. z < length named.names) e (round-low x (omega (arith, range.1))))

  maps : IsEndomorphism named images
  maps = record {
    assignment = (length-map_counted (λ x. back (to x)) (length named.names), images-low);
    relaxed = record {
      active_degree = refl;
      passive_degree = refl;
      active = images-held named.active is.problem.active (round-held named.active other.active there.active again.active);
      passive = images-held named.passive is.problem.passive (round-held named.passive other.passive there.passive again.passive);
    };
  }

  -- the images are among those of the labels between
  abbrev between : List ℕ
  between = filter (λ y. ltb y (length named.names)) (map back (count_from 0 other.labels))

  pub few : length (image_set images) ≤ other.labels
  few =
      omega (
        arith,
        within-shorter (length named.names) (image_set images) (support_of between) (IsLabelSet-support_of (length named.names) images images-low) (IsLabelSet-support_of (length named.names) between between-low) inside,
        length-support_of_most between,
        length-filter_both (λ y. ltb y (length named.names)) (λ y. not (ltb y (length named.names))) (λ y. refl) (map back (count_from 0 other.labels)),
        length-map_counted back other.labels,
      )
    where
      between-low : AllByRecursion (λ label. label < length named.names) between
      between-low = AllByRecursion-from_contains (λ label. label < length named.names) between (λ y held. below-true y (length named.names) (Contains-filter_cases (λ y. ltb y (length named.names)) (map back (count_from 0 other.labels)) y held).1)

      inside : (y : ℕ) → has (image_set images) y ≡ true → has (support_of between) y ≡ true
      inside y h =
          let (x, at, e) = Contains-map_cases (λ x. back (to x)) (count_from 0 (length named.names)) y (has-IsIn images y (sym (has-support_of images y) ∙ h)) in
          let range = count_from_range 0 (length named.names) x at in
          let l : x < length named.names = omega (arith, range.1) in
          let low : to x < other.labels = to-low x l in
          let held : Contains (map back (count_from 0 other.labels)) (back (to x)) = Contains-map back (count_from 0 other.labels) (to x) (Contains-count_from 0 other.labels (to x) (omega arith) (omega (arith, low))) in
          has-support_of between y
          ∙ IsIn-has between y (subst (Contains between) e (Contains-filter (λ y. ltb y (length named.names)) (map back (count_from 0 other.labels)) (back (to x)) held (true-below (back (to x)) (length named.names) (round-low x l))))

pub least_labels_law : LeastLabelsLaw
least_labels_law named reduced tries other to back is e is_other there again = go (reduction named tries) (reduction_law named tries is) e
  where
    few-images : length (image_set (map (λ x. back (to x)) (count_from 0 (length named.names)))) ≤ other.labels
    few-images = few named other to back is is_other there again

    there_back : IsEndomorphism named (map (λ x. back (to x)) (count_from 0 (length named.names)))
    there_back = maps named other to back is is_other there again

    go : (w : Walk) → Reduces named w → reduced_by named w ≡ Some reduced → length reduced.names ≤ other.labels
    go (found images) told h =
        let same : problem_within (image_set images) named ≡ reduced = (let there : Some (problem_within (image_set images) named) ≡ Some reduced = h in cc) in
        let count : length reduced.names ≡ length (image_set images) = sym (ap (λ (p : NamedProblem). length p.names) same) ∙ length-map' _ (image_set images) in
        omega (arith, count, told.fewest (map (λ x. back (to x)) (count_from 0 (length named.names))) there_back, few-images)
    go nowhere told h =
        let same : named ≡ reduced = (let there : Some named ≡ Some reduced = h in cc) in
        omega (arith, ap (λ (p : NamedProblem). length p.names) same, told (map (λ x. back (to x)) (count_from 0 (length named.names))) there_back, few-images)
    go cut told h = absurd (let there : None ≡ Some reduced = h in cc)
