-- Labels left out one after another: the configurations that are left are images of configurations of the first problem.
use Rattle.std.proofs.Common.{◌≡◌, ℕ, zero, suc, ◌+◌, ◌-◌, ◌<◌, ◌≤◌, eqb, Bool, true, false, cond, not, ◌||◌, ◌&&◌, List, [], ◌∷◌, length, map, get_or, flat_map, Option, None, Some, refl, sym, ap, ◌∙◌, subst, arith, inl, inr}
use Rattle.std.proofs.lemmas.Bool.{false≢true}
use Rattle.std.specs.Prelude.{Contains, filter, option_and_then, if◌then◌else◌}
use Rattle.re_labels.proofs.Sorting.{sorted_again}
use Rattle.re_labels.specs.Configs.{IsConfig, image_at, image_of, sorted}
use Rattle.re_labels.proofs.Membership.{AllByRecursion-In, Contains-In, In, In-Contains, In-filter_from, In-flat_map_from, In-map_from, length-count_from, length-map'}
use Rattle.re_labels.proofs.Rising.{rising-map}
use Rattle.re_labels.proofs.Sets.{IsIn-has, has-filter}
use Rattle.re_labels.proofs.Tests.{eqb-same, eqb-true}
use Rattle.re_labels.specs.Lists.{IsRising, count_from}
use Rattle.re_labels.specs.Sets.{has}
use Rattle.re_problem.proofs.StepLaws.{map-map}
use Rattle.re_problem.specs.NamedProblems.{NamedProblem, occurs, unnamed}
use Rattle.re_problem.specs.Problems.{IsProblem}
use Rattle.re_labels.specs.Constraints.{Constraint, IsConstraint, images_of}
use Rattle.re_labels.specs.Strength.{constraint_without}
use Rattle.re_changes.proofs.Numbering.{number-rises, number_at}
use Rattle.re_changes.proofs.OneChange.{IsLabelSet-staying, IsProblem-after, active-stays, below-counted, counted-below, new_number, passive-stays}
use Rattle.re_labels.proofs.ConstraintImages.{config-below, image-from}
use Rattle.re_changes.specs.Changes.{Changed, IsChange, after, all_changed, all_left_out, becomes, changed_by, changed_times, new_numbers, staying, unchanged, used, without}
use Rattle.re_changes.specs.Renumbering.{number_among}
use Rattle.re_changes.specs.declared.change.Change.{Change}
use Rattle.re_changes.specs.declared.change.Change.TheVariants.{LeaveOut, Merge}

-- ---- the labels that are left, in order
abbrev pub labels_left : List (Option ℕ) → List ℕ
labels_left [] = []
labels_left (None ∷ images) = labels_left images
labels_left (Some label ∷ images) = label ∷ labels_left images

left-again : (f : ℕ → Option ℕ) (images : List (Option ℕ)) → labels_left (map (λ image. option_and_then f image) images) ≡ labels_left (map f (labels_left images))
left-again f [] = refl
left-again f (None ∷ images) = left-again f images
left-again f (Some label ∷ images) = go (f label) (left-again f images)
  where
    go : (o : Option ℕ) → labels_left (map (λ image. option_and_then f image) images) ≡ labels_left (map f (labels_left images))
        → labels_left (o ∷ map (λ image. option_and_then f image) images) ≡ labels_left (o ∷ map f (labels_left images))
    go None e = e
    go (Some x) e = ap (λ l. x ∷ l) e

left-some : (xs : List ℕ) → labels_left (map (λ (x : ℕ). Some x) xs) ≡ xs
left-some [] = refl
left-some (x ∷ xs) = ap (λ l. x ∷ l) (left-some xs)

left-tested : (p : ℕ → Bool) (f : ℕ → ℕ) (xs : List ℕ) → labels_left (map (λ x. cond (p x) (Some (f x)) None) xs) ≡ map f (filter p xs)
left-tested p f [] = refl
left-tested p f (x ∷ xs) = go (p x) (left-tested p f xs)
  where
    go : (b : Bool) → labels_left (map (λ x. cond (p x) (Some (f x)) None) xs) ≡ map f (filter p xs)
        → labels_left (cond b (Some (f x)) None ∷ map (λ x. cond (p x) (Some (f x)) None) xs) ≡ map f (cond b (x ∷ filter p xs) (filter p xs))
    go true e = ap (λ l. f x ∷ l) e
    go false e = e

-- what a filter leaves passes, and so is left by the test of membership in it
filter-again : (p q : ℕ → Bool) (xs : List ℕ) → ((x : ℕ) → In x xs → q x ≡ p x) → filter q xs ≡ filter p xs
filter-again p q [] same = refl
filter-again p q (x ∷ xs) same = (λ i. cond (same x (inl refl) i) (x ∷ filter-again p q xs (λ y j. same y (inr j)) i) (filter-again p q xs (λ y j. same y (inr j)) i))

filter-members : (p : ℕ → Bool) (xs : List ℕ) → filter (has (filter p xs)) xs ≡ filter p xs
filter-members p xs = filter-again p (has (filter p xs)) xs (λ x i. has-filter p xs x ∙ ap (λ b. b && p x) (IsIn-has xs x (In-Contains x xs i)))

numbers-counted : (f : ℕ → ℕ) (xs : List ℕ) (j : ℕ) → ((k : ℕ) → k < length xs → f (get_or xs k 0) ≡ j + k) → map f xs ≡ count_from j (length xs)
numbers-counted f [] j h = refl
numbers-counted f (x ∷ xs) j h =
    let first : f x ≡ j = (let e = h 0 (omega arith) in omega arith) in
    (λ i. first i ∷ numbers-counted f xs (suc j) (λ k l. let e = h (suc k) (omega arith) in omega arith) i)

-- ---- one label left out
module _ (a : ℕ) (named : NamedProblem) where
  -- the numbers of the labels that stay are in order
  left-counted : labels_left (map (becomes (LeaveOut a) named) (count_from 0 (length named.names))) ≡ count_from 0 (length (after (LeaveOut a) named).names)
  left-counted =
      let stay : List ℕ = used (without a named) in
      let occurring : ℕ → Bool = λ label. occurs (constraint_without a named.active) label || occurs (constraint_without a named.passive) label in
      left-tested (has stay) (number_among stay) (count_from 0 (length named.names))
      ∙ ap (map (number_among stay)) (filter-members occurring (count_from 0 (length named.names)))
      ∙ numbers-counted (number_among stay) stay 0 (λ k l. let e = number_at stay k (IsLabelSet-staying (LeaveOut a) named).0 l in omega arith)
      ∙ ap (count_from 0) (sym (length-map' (λ label. get_or named.names label []) stay))

-- a configuration that is left is the image of one, label by label
module _ (a : ℕ) (named : NamedProblem) (constraint : Constraint) (is : IsConstraint (length named.names) constraint)
    (stays : (config : List ℕ) (x : ℕ) → In config (constraint_without a constraint).configs → In x config → (x < length named.names) × In x (staying (LeaveOut a) named)) where
  config-left : (config : List ℕ) → In config (images_of (new_numbers (LeaveOut a) named) (constraint_without a constraint))
      → (from : List ℕ) × In from constraint.configs × (map (becomes (LeaveOut a) named) from ≡ map (λ (x : ℕ). Some x) config)
  config-left config i = go (image-from (new_numbers (LeaveOut a) named) (constraint_without a constraint) config i)
    where
      number : ℕ → ℕ
      number = image_at (new_numbers (LeaveOut a) named)

      is_number : (from : List ℕ) (x : ℕ) → In from (constraint_without a constraint).configs → In x from → number x ≡ number_among (staying (LeaveOut a) named) x
      is_number from x j k = new_number (LeaveOut a) named x (stays from x j k).0

      become : (from rest : List ℕ) → In from (constraint_without a constraint).configs → ((x : ℕ) → In x rest → In x from) → map (becomes (LeaveOut a) named) rest ≡ map (λ (x : ℕ). Some x) (map number rest)
      become from [] j within = refl
      become from (x ∷ rest) j within =
          let k = within x (inl refl) in
          let yes : has (staying (LeaveOut a) named) x ≡ true = IsIn-has (staying (LeaveOut a) named) x (In-Contains x (staying (LeaveOut a) named) (stays from x j k).1) in
          let first : becomes (LeaveOut a) named x ≡ Some (number x) = ap (λ b. cond b (Some (number_among (staying (LeaveOut a) named) x)) None) yes ∙ ap Some (sym (is_number from x j k)) in
          (λ i. first i ∷ become from rest j (λ y h. within y (inr h)) i)

      go : (from : List ℕ) × In from (constraint_without a constraint).configs × (config ≡ image_of (new_numbers (LeaveOut a) named) from)
          → (from : List ℕ) × In from constraint.configs × (map (becomes (LeaveOut a) named) from ≡ map (λ (x : ℕ). Some x) config)
      go (from, j, e) =
          let inside : In from constraint.configs = (In-filter_from (λ config. not (has config a)) from constraint.configs j).0 in
          let one : IsConfig constraint.degree (length named.names) from = AllByRecursion-In (IsConfig constraint.degree (length named.names)) constraint.configs from is.configs inside in
          let rises : IsRising (λ x y. x ≤ y) (map number from) = rising-map (λ x y. x ≤ y) (λ x y. x ≤ y) number from
          (λ x y h k l. subst (λ m. m ≤ number y) (sym (is_number from x j h)) (subst (λ m. number_among (staying (LeaveOut a) named) x ≤ m) (sym (is_number from y j k)) (number-rises (staying (LeaveOut a) named) x y l))) one.ascends in
          (from, inside, become from from j (λ x h. h) ∙ ap (map (λ (x : ℕ). Some x)) (sym (e ∙ sorted_again (map number from) rises)))

-- ---- labels left out one after another
-- what a label has become, if it is left
abbrev pub left_as : List (Option ℕ) → ℕ → Option ℕ
left_as images label = get_or images label None

-- each configuration of the one list is the image of one of the other list, label by label
abbrev pub AreImages : List (Option ℕ) → List (List ℕ) → List (List ℕ) → Type 0
AreImages images configs others = (config : List ℕ) → In config others → (from : List ℕ) × In from configs × (map (left_as images) from ≡ map (λ (x : ℕ). Some x) config)

-- what is left of a problem where labels are left out: the labels that are left are numbered in order, and the configurations are images
pub record IsLeft (named : NamedProblem) (made : Changed) : Type 0 where
  pub problem : IsProblem (unnamed made.problem)
  pub active_degree : made.problem.active.degree ≡ named.active.degree
  pub passive_degree : made.problem.passive.degree ≡ named.passive.degree
  pub count : length made.images ≡ length named.names
  pub order : labels_left made.images ≡ count_from 0 (length made.problem.names)
  pub active : AreImages made.images named.active.configs made.problem.active.configs
  pub passive : AreImages made.images named.passive.configs made.problem.passive.configs

counted_as : (i n label : ℕ) → i ≤ label → label < i + n → get_or (map (λ (x : ℕ). Some x) (count_from i n)) (label - i) None ≡ Some label
counted_as i zero label l m = absurd (omega arith)
counted_as i (suc n) label l m = by (eqb label i) refl (λ low. counted_as (suc i) n label low (omega arith))
  where
    by : (b : Bool) → eqb label i ≡ b → (suc i ≤ label → get_or (map (λ (x : ℕ). Some x) (count_from (suc i) n)) (label - suc i) None ≡ Some label)
        → get_or (map (λ (x : ℕ). Some x) (count_from i (suc n))) (label - i) None ≡ Some label
    by true e rest =
        let same : label ≡ i = eqb-true label i e in
        let none : label - i ≡ 0 = omega arith in
        ap (λ k. get_or (map (λ (x : ℕ). Some x) (count_from i (suc n))) k None) none ∙ ap Some (sym same)
    by false e rest =
        let apart : label ≡ i → ⊥ = λ s. false≢true (sym e ∙ ap (λ x. eqb x i) s ∙ eqb-same i) in
        let more : label - i ≡ suc (label - suc i) = omega arith in
        ap (λ k. get_or (map (λ (x : ℕ). Some x) (count_from i (suc n))) k None) more ∙ rest (omega arith)

pub IsLeft-unchanged : (named : NamedProblem) → IsProblem (unnamed named) → IsLeft named (unchanged named)
IsLeft-unchanged named is = record {
  problem = is;
  active_degree = refl;
  passive_degree = refl;
  count = length-map' (λ (label : ℕ). Some label) (count_from 0 (length named.names)) ∙ length-count_from 0 (length named.names);
  order = left-some (count_from 0 (length named.names));
  active = itself named.active is.active;
  passive = itself named.passive is.passive;
}
  where
    each : (config : List ℕ) → ((x : ℕ) → In x config → x < length named.names) → map (left_as (unchanged named).images) config ≡ map (λ (x : ℕ). Some x) config
    each [] below = refl
    each (x ∷ config) below =
        let z : x ≡ x - 0 = omega arith in
        let l = below x (inl refl) in
        let first : left_as (unchanged named).images x ≡ Some x = ap (left_as (unchanged named).images) z ∙ counted_as 0 (length named.names) x (omega arith) (omega arith) in
        (λ i. first i ∷ each config (λ y j. below y (inr j)) i)

    itself : (constraint : Constraint) → IsConstraint (length named.names) constraint → AreImages (unchanged named).images constraint.configs constraint.configs
    itself constraint is config i = (config, i, each config (λ x j. config-below (length named.names) constraint is config x i j))

image-again : (f : ℕ → Option ℕ) (images : List (Option ℕ)) (label : ℕ) → left_as (map (λ image. option_and_then f image) images) label ≡ option_and_then f (left_as images label)
image-again f [] label = refl
image-again f (image ∷ images) zero = refl
image-again f (image ∷ images) (suc label) = image-again f images label

images-again : (f : ℕ → Option ℕ) (images : List (Option ℕ)) (from config : List ℕ) → map (left_as images) from ≡ map (λ (x : ℕ). Some x) config
    → map (left_as (map (λ image. option_and_then f image) images)) from ≡ map f config
images-again f images from config e =
    each from ∙ sym (map-map (λ image. option_and_then f image) (left_as images) from) ∙ ap (map (λ image. option_and_then f image)) e ∙ map-map (λ image. option_and_then f image) (λ (x : ℕ). Some x) config
  where
    each : (from : List ℕ) → map (left_as (map (λ image. option_and_then f image) images)) from ≡ map (λ label. option_and_then f (left_as images label)) from
    each [] = refl
    each (x ∷ from) = (λ i. image-again f images x i ∷ each from i)

pub IsLeft-left_out : (named : NamedProblem) (made : Changed) (a : ℕ) → IsLeft named made → a < length made.problem.names → IsLeft named (changed_by (LeaveOut a) made)
IsLeft-left_out named made a is l = record {
  problem = IsProblem-after (LeaveOut a) made.problem is.problem l;
  active_degree = is.active_degree;
  passive_degree = is.passive_degree;
  count = length-map' (λ image. option_and_then (becomes (LeaveOut a) made.problem) image) made.images ∙ is.count;
  order = left-again (becomes (LeaveOut a) made.problem) made.images ∙ ap (λ labels. labels_left (map (becomes (LeaveOut a) made.problem) labels)) is.order ∙ left-counted a made.problem;
  active = further named.active.configs made.problem.active is.active (config-left a made.problem made.problem.active is.problem.active (λ config x i j. active-stays (LeaveOut a) made.problem is.problem l config x i j));
  passive = further named.passive.configs made.problem.passive is.passive (config-left a made.problem made.problem.passive is.problem.passive (λ config x i j. passive-stays (LeaveOut a) made.problem is.problem l config x i j));
}
  where
    further : (configs : List (List ℕ)) (constraint : Constraint) → AreImages made.images configs constraint.configs
        → ((config : List ℕ) → In config (images_of (new_numbers (LeaveOut a) made.problem) (constraint_without a constraint))
        → (from : List ℕ) × In from constraint.configs × (map (becomes (LeaveOut a) made.problem) from ≡ map (λ (x : ℕ). Some x) config))
        → AreImages (changed_by (LeaveOut a) made).images configs (images_of (new_numbers (LeaveOut a) made.problem) (constraint_without a constraint))
    further configs constraint before one config i =
        let (middle, j, e) = one config i in
        let (from, k, f) = before middle j in
        (from, k, images-again (becomes (LeaveOut a) made.problem) made.images from middle f ∙ e)

-- a label of the list to leave out is one of the problem
pub listed-left_out : (n : ℕ) (change : Change) → In change (all_left_out n) → (x : ℕ) × (change ≡ LeaveOut x) × (x < n)
listed-left_out n change i = let (x, j, e) = In-map_from (λ x. LeaveOut x) change (count_from 0 n) i in (x, e, below-counted n x j)

pub IsLeft-times : (named : NamedProblem) (k : ℕ) (start made : Changed) → IsLeft named start → In made (changed_times false k start) → IsLeft named made
IsLeft-times named zero start made is (inl e) = subst (IsLeft named) (sym e) is
IsLeft-times named zero start made is (inr i) = absurd i
IsLeft-times named (suc k) start made is i =
    let (change, j, h) = In-flat_map_from (λ change. changed_times false k (changed_by change start)) made (all_left_out (length start.problem.names)) i in
    let (x, e, l) = listed-left_out (length start.problem.names) change j in
    IsLeft-times named k (changed_by change start) made (subst (λ c. IsLeft named (changed_by c start)) (sym e) (IsLeft-left_out named start x is l)) h

-- what is left where at most k labels are left out
pub IsLeft-all : (named : NamedProblem) (k : ℕ) (made : Changed) → IsProblem (unnamed named) → In made (all_changed false k named) → IsLeft named made
IsLeft-all named k made is i =
    let (m, j, h) = In-flat_map_from (λ m. changed_times false m (unchanged named)) made (count_from 0 (suc k)) i in
    IsLeft-times named m (unchanged named) made (IsLeft-unchanged named is) h
