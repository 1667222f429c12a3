-- Merging: the labels that stay, the map, and the problem that it makes.
use Rattle.std.proofs.Common.{◌≡◌, ℕ, ◌<◌, ◌≤◌, ◌+◌, true, List, length, map, get_or, Some, sym, ap, ◌∙◌, subst, arith}
use Rattle.std.specs.List.{AllByRecursion}
use Rattle.std.proofs.lemmas.List.{get_or-map}
use Rattle.re_labels.specs.Configs.{image_at}
use Rattle.re_labels.proofs.Membership.{AllByRecursion-from_In, Contains-In, In-Contains, In-map_from, get_or-count_from, length-count_from, map-alike}
use Rattle.re_labels.proofs.Tests.{and-true, true-and}
use Rattle.re_labels.specs.Lists.{count_from}
use Rattle.re_labels.specs.Sets.{IsLabelSet, meet}
use Rattle.re_problem.specs.NamedProblems.{IsNamedProblem, NamedProblem, built, unnamed}
use Rattle.re_problem.specs.Problems.{IsProblem, Problem}
use Rattle.re_problem.specs.Strength.{Covers}
use Rattle.re_labels.proofs.Strengths.{IsAtLeastAsStrong-refl, IsAtLeastAsStrong-test, IsAtLeastAsStrong-trans, is_at_least_as_strong-fact}
use Rattle.re_labels.proofs.ConstraintImages.{config-below}
use Rattle.re_labels.specs.Constraints.{Constraint, IsConstraint}
use Rattle.re_labels.specs.Strength.{is_at_least_as_strong, up_set}
use Rattle.re_changes.proofs.Alike.{Alike, below_bound, cover_sets-alike, least_equal-alike, least_labels-alike}
use Rattle.re_changes.proofs.Counted.{length-map_counted}
use Rattle.re_changes.proofs.EqualLabels.{IsLabelSet-least_labels, equal-chain, equal-flip, least-in_class, least-same, least-stays, least_labels-fact}
use Rattle.re_changes.proofs.Numbering.{at_number, renumbered-built}
use Rattle.re_changes.specs.Classes.{are_equal, least_equal, least_labels, strong_by}
use Rattle.re_changes.specs.Laws.{MergedLaw}
use Rattle.re_changes.specs.Merging.{covers, merge_map, unmerged}
use Rattle.re_changes.specs.Renumbering.{number_among, renumbered}

-- ---- covering as a fact and as a test
pub covers-fact : (problem : Problem) (b a : ℕ) → covers problem b a ≡ true → Covers problem b a
covers-fact problem b a h =
    let two = and-true (is_at_least_as_strong problem.active b a) (is_at_least_as_strong problem.passive b a) h in
    (is_at_least_as_strong-fact problem.active a b two.0, is_at_least_as_strong-fact problem.passive a b two.1)

pub covers-test : (problem : Problem) (b a : ℕ) → Covers problem b a → covers problem b a ≡ true
covers-test problem b a two = true-and (is_at_least_as_strong problem.active b a) (is_at_least_as_strong problem.passive b a)
    (IsAtLeastAsStrong-test problem.active a b two.0) (IsAtLeastAsStrong-test problem.passive a b two.1)

pub covers-refl : (problem : Problem) → IsProblem problem → (a : ℕ) → covers problem a a ≡ true
covers-refl problem is a = covers-test problem a a (IsAtLeastAsStrong-refl problem.active problem.labels a is.active, IsAtLeastAsStrong-refl problem.passive problem.labels a is.passive)

pub covers-trans : (problem : Problem) (a b c : ℕ) → covers problem b a ≡ true → covers problem c b ≡ true → covers problem c a ≡ true
covers-trans problem a b c one two =
    let f = covers-fact problem b a one in
    let g = covers-fact problem c b two in
    covers-test problem c a (IsAtLeastAsStrong-trans problem.active a b c f.0 g.0, IsAtLeastAsStrong-trans problem.passive a b c f.1 g.1)

-- ---- labels of a constraint
pub configs-below : (n m : ℕ) (constraint : Constraint) → IsConstraint n constraint → n ≡ m → AllByRecursion (AllByRecursion (λ label. label < m)) constraint.configs
configs-below n m constraint is e = AllByRecursion-from_In (AllByRecursion (λ label. label < m)) constraint.configs
    (λ config i. AllByRecursion-from_In (λ label. label < m) config (λ x j. subst (λ k. x < k) e (config-below n constraint is config x i j)))

module _ (named : NamedProblem) (is : IsNamedProblem named) where
  labels : ℕ
  labels = length named.names

  itself : (a : ℕ) → covers (unnamed named) a a ≡ true
  itself = covers-refl (unnamed named) is.problem

  chain : (a b c : ℕ) → covers (unnamed named) b a ≡ true → covers (unnamed named) c b ≡ true → covers (unnamed named) c a ≡ true
  chain = covers-trans (unnamed named)

  -- the image of a label
  pub image-merged : (a : ℕ) → a < length named.names → image_at (merge_map named) a ≡ number_among (unmerged named) (least_equal (covers (unnamed named)) (length named.names) a)
  image-merged a l =
      let m : a < length (count_from 0 (length named.names)) = omega (arith, length-count_from 0 (length named.names)) in
      let z : 0 + a ≡ a = omega arith in
      get_or-map (λ a. number_among (unmerged named) (least_equal (covers (unnamed named)) (length named.names) a)) (count_from 0 (length named.names)) a 0 0 m
      ∙ ap (λ x. number_among (unmerged named) (least_equal (covers (unnamed named)) (length named.names) x)) (get_or-count_from 0 (length named.names) a 0 l ∙ z)

  -- the least label of its class, by its number
  pub merged-number : (a : ℕ) → a < length named.names
      → (image_at (merge_map named) a < length (unmerged named)) × (get_or (unmerged named) (image_at (merge_map named) a) 0 ≡ least_equal (covers (unnamed named)) (length named.names) a)
  merged-number a l =
      let r = at_number (unmerged named) (least_equal (covers (unnamed named)) (length named.names) a) (IsLabelSet-least_labels (covers (unnamed named)) (length named.names)).0
      (Contains-In (least_equal (covers (unnamed named)) (length named.names) a) (unmerged named) (least-stays (covers (unnamed named)) (length named.names) itself chain a l)) in
      let e = image-merged a l in
      (let k = r.0 in omega arith, ap (λ k. get_or (unmerged named) k 0) e ∙ r.1)

  pub IsLabelSet-unmerged : IsLabelSet (length named.names) (unmerged named)
  IsLabelSet-unmerged = IsLabelSet-least_labels (covers (unnamed named)) (length named.names)

  pub length-merge_map : length (merge_map named) ≡ length named.names
  length-merge_map = length-map_counted (λ a. number_among (unmerged named) (least_equal (covers (unnamed named)) (length named.names) a)) (length named.names)

  pub merged-below : (m : ℕ) → length (unmerged named) ≤ m → AllByRecursion (λ image. image < m) (merge_map named)
  merged-below m most = AllByRecursion-from_In (λ image. image < m) (merge_map named) (λ image i.
      let from = In-map_from (λ a. number_among (unmerged named) (least_equal (covers (unnamed named)) (length named.names) a)) image (count_from 0 (length named.names)) i in
      let l = below_bound (length named.names) from.0 (In-Contains from.0 (count_from 0 (length named.names)) from.1) in
      let e = from.2 ∙ sym (image-merged from.0 l) in
      let k = (merged-number from.0 l).0 in
      omega arith)

  pub merged-built : built (renumbered (unmerged named) (merge_map named) named).names (renumbered (unmerged named) (merge_map named) named).active (renumbered (unmerged named) (merge_map named) named).passive
      ≡ Some (renumbered (unmerged named) (merge_map named) named)
  merged-built = renumbered-built (unmerged named) (merge_map named) named IsLabelSet-unmerged.0
      (λ config x i j. (merged-number x (config-below (length named.names) named.active is.problem.active config x i j)).0)
      (λ config x i j. (merged-number x (config-below (length named.names) named.passive is.problem.passive config x i j)).0)
      (λ x i. let two = least_labels-fact (covers (unnamed named)) (length named.names) x (In-Contains x (unmerged named) i) in image-merged x two.0 ∙ ap (number_among (unmerged named)) two.1)
      (λ x i. is.occur x (least_labels-fact (covers (unnamed named)) (length named.names) x (In-Contains x (unmerged named) i)).0)

  -- merged labels cover each other
  pub merged-equal : (a b : ℕ) → a < length named.names → b < length named.names → image_at (merge_map named) a ≡ image_at (merge_map named) b → are_equal (covers (unnamed named)) a b ≡ true
  merged-equal a b l m e =
      let same : least_equal (covers (unnamed named)) (length named.names) a ≡ least_equal (covers (unnamed named)) (length named.names) b =
      sym (merged-number a l).1 ∙ ap (λ k. get_or (unmerged named) k 0) e ∙ (merged-number b m).1 in
      let x = least-in_class (covers (unnamed named)) (length named.names) itself chain a l in
      let y = least-in_class (covers (unnamed named)) (length named.names) itself chain b m in
      equal-chain (covers (unnamed named)) (length named.names) itself chain a (least_equal (covers (unnamed named)) (length named.names) b) b
      (subst (λ c. are_equal (covers (unnamed named)) a c ≡ true) same x.1)
      (equal-flip (covers (unnamed named)) (length named.names) itself chain b (least_equal (covers (unnamed named)) (length named.names) b) y.1)

  pub equal-merged : (a b : ℕ) → a < length named.names → b < length named.names → are_equal (covers (unnamed named)) a b ≡ true → image_at (merge_map named) a ≡ image_at (merge_map named) b
  equal-merged a b l m e =
      image-merged a l ∙ ap (number_among (unmerged named)) (least-same (covers (unnamed named)) (length named.names) itself chain a b l m e) ∙ sym (image-merged b m)

pub merged_law : MergedLaw
merged_law named a b is l m = (
  (λ e. let two = and-true (covers (unnamed named) a b) (covers (unnamed named) b a) (merged-equal named is a b l m e) in
      (covers-fact (unnamed named) a b two.0, covers-fact (unnamed named) b a two.1)),
  (λ two. equal-merged named is a b l m (true-and (covers (unnamed named) a b) (covers (unnamed named) b a) (covers-test (unnamed named) a b two.0) (covers-test (unnamed named) b a two.1))),
)

-- ---- what is made from the list of the sets that cover
module _ (named : NamedProblem) where
  by_sets : (sets : List (List ℕ)) → sets ≡ map (λ a. meet (up_set named.active a (length named.names)) (up_set named.passive a (length named.names))) (count_from 0 (length named.names))
      → Alike (length named.names) (strong_by sets) (covers (unnamed named))
  by_sets sets e = subst (λ s. Alike (length named.names) (strong_by s) (covers (unnamed named))) (sym e) (cover_sets-alike (unnamed named) (length named.names))

  how_many : (sets : List (List ℕ)) → sets ≡ map (λ a. meet (up_set named.active a (length named.names)) (up_set named.passive a (length named.names))) (count_from 0 (length named.names))
      → length sets ≡ length named.names
  how_many sets e = ap length e ∙ length-map_counted (λ a. meet (up_set named.active a (length named.names)) (up_set named.passive a (length named.names))) (length named.names)

  pub stay-made : (sets : List (List ℕ)) (stay : List ℕ) → sets ≡ map (λ a. meet (up_set named.active a (length named.names)) (up_set named.passive a (length named.names))) (count_from 0 (length named.names))
      → stay ≡ least_labels (strong_by sets) (length sets) → stay ≡ unmerged named
  stay-made sets stay e made =
      made ∙ ap (least_labels (strong_by sets)) (how_many sets e) ∙ least_labels-alike (length named.names) (strong_by sets) (covers (unnamed named)) (by_sets sets e)

  pub images-made : (sets : List (List ℕ)) (stay images : List ℕ) → sets ≡ map (λ a. meet (up_set named.active a (length named.names)) (up_set named.passive a (length named.names))) (count_from 0 (length named.names))
      → stay ≡ unmerged named → images ≡ map (λ a. number_among stay (least_equal (strong_by sets) (length sets) a)) (count_from 0 (length sets)) → images ≡ merge_map named
  images-made sets stay images e stays made =
      made ∙ (λ i. map (λ a. number_among (stays i) (least_equal (strong_by sets) (how_many sets e i) a)) (count_from 0 (how_many sets e i)))
      ∙ map-alike (λ a. number_among (unmerged named) (least_equal (strong_by sets) (length named.names) a))
      (λ a. number_among (unmerged named) (least_equal (covers (unnamed named)) (length named.names) a)) (count_from 0 (length named.names))
      (λ a held. ap (number_among (unmerged named)) (least_equal-alike (length named.names) (strong_by sets) (covers (unnamed named)) (by_sets sets e) a (below_bound (length named.names) a held)))

-- the same in the code's own variables: the sets, the labels that stay and the images as slices
module _ (named : NamedProblem) (sets sets' : List (List ℕ)) (stay stay' stay'' images images' : List ℕ)
    (covered : sets ≡ map (λ a. meet (up_set named.active a (length named.names)) (up_set named.passive a (length named.names))) (count_from 0 (length named.names)))
    (shown : sets' ≡ sets) (least : stay ≡ least_labels (strong_by sets) (length sets)) (seen : stay' ≡ stay) (seen' : stay'' ≡ stay)
    (made : images ≡ map (λ a. number_among stay' (least_equal (strong_by sets') (length sets') a)) (count_from 0 (length sets'))) (viewed : images' ≡ images) where
  pub stay-is : stay'' ≡ unmerged named
  stay-is = seen' ∙ stay-made named sets stay covered least

  pub images-are : images' ≡ merge_map named
  images-are = viewed ∙ images-made named sets' stay' images (shown ∙ covered) (seen ∙ stay-made named sets stay covered least) made
