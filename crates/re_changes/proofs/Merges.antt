-- Merges one after another: what they make is a relaxation of the first problem.
use Rattle.std.proofs.Common.{◌≡◌, ℕ, zero, suc, ◌+◌, ◌<◌, true, cond, List, [], length, map, get_or, None, Some, refl, sym, ap, ◌∙◌, subst, arith, inl, inr, ◌-◌}
use Rattle.std.specs.Prelude.{Contains, option_and_then}
use Rattle.std.proofs.lemmas.List.{get_or-map}
use Rattle.re_labels.proofs.Sorting.{sorted_map}
use Rattle.re_labels.specs.Configs.{image_at, sorted}
use Rattle.re_labels.proofs.Membership.{In, In-Contains, In-flat_map_from, In-map_from, count_from_range, get_or-count_from, length-count_from, length-map'}
use Rattle.re_labels.proofs.Sets.{IsIn-has}
use Rattle.re_labels.specs.Lists.{count_from}
use Rattle.re_labels.specs.Sets.{has}
use Rattle.re_problem.proofs.StepLaws.{IsRelaxed-itself, map-map}
use Rattle.re_problem.specs.NamedProblems.{NamedProblem, unnamed}
use Rattle.re_problem.specs.Problems.{IsProblem, Problem}
use Rattle.re_problem.specs.Steps.{IsRelaxed}
use Rattle.re_labels.specs.Constraints.{Constraint, Has}
use Rattle.re_changes.proofs.Numbering.{at_number}
use Rattle.re_changes.proofs.OneChange.{IsLabelSet-staying, IsProblem-after, below-counted, merge-stays, new_number}
use Rattle.re_labels.proofs.ConstraintImages.{image-held}
use Rattle.re_changes.specs.Changes.{Changed, after, all_changed, all_merges, becomes, changed_by, changed_times, goes_to, new_numbers, staying, unchanged}
use Rattle.re_changes.specs.Renumbering.{number_among}
use Rattle.re_changes.specs.declared.change.Change.{Change}
use Rattle.re_changes.specs.declared.change.Change.TheVariants.{Merge}

-- ---- relaxations
-- a relaxation of a relaxation
pub IsRelaxed-trans : (problem middle next : Problem) (f g : ℕ → ℕ) → IsRelaxed problem middle f → IsRelaxed middle next g → IsRelaxed problem next (λ x. g (f x))
IsRelaxed-trans problem middle next f g one two = record {
  active_degree = two.active_degree ∙ one.active_degree;
  passive_degree = two.passive_degree ∙ one.passive_degree;
  active = λ config held. through next.active config (two.active (sorted (map f config)) (one.active config held));
  passive = λ config held. through next.passive config (two.passive (sorted (map f config)) (one.passive config held));
}
  where
    through : (constraint : Constraint) (config : List ℕ) → Has constraint (map g (sorted (map f config))) → Has constraint (map (λ x. g (f x)) config)
    through constraint config held = subst (λ c. Contains constraint.configs c) (sorted_map g (map f config) ∙ ap sorted (map-map g f config)) held

-- ---- one merge
pub merge-relaxed : (x y : ℕ) (named : NamedProblem) → IsRelaxed (unnamed named) (unnamed (after (Merge x y) named)) (image_at (new_numbers (Merge x y) named))
merge-relaxed x y named = record {
  active_degree = refl;
  passive_degree = refl;
  active = image-held (new_numbers (Merge x y) named) named.active;
  passive = image-held (new_numbers (Merge x y) named) named.passive;
}

-- a label becomes the one with its new number
pub merge-becomes : (x y : ℕ) (named : NamedProblem) → x < y → y < length named.names → (label : ℕ) → label < length named.names
    → (becomes (Merge x y) named label ≡ Some (image_at (new_numbers (Merge x y) named) label)) × (image_at (new_numbers (Merge x y) named) label < length (after (Merge x y) named).names)
merge-becomes x y named l m label below =
    let stays = merge-stays x y named l m label below in
    let yes : has (staying (Merge x y) named) (goes_to (Merge x y) label) ≡ true = IsIn-has (staying (Merge x y) named) (goes_to (Merge x y) label) (In-Contains (goes_to (Merge x y) label) (staying (Merge x y) named) stays) in
    let number = new_number (Merge x y) named label below in
    let count = length-map' (λ label. get_or named.names label []) (staying (Merge x y) named) in
    let low = (at_number (staying (Merge x y) named) (goes_to (Merge x y) label) (IsLabelSet-staying (Merge x y) named).0 stays).0 in (
      ap (λ b. cond b (Some (number_among (staying (Merge x y) named) (goes_to (Merge x y) label))) None) yes ∙ ap Some (sym number),
      subst (λ k. k < length (after (Merge x y) named).names) (sym number) (omega (arith, count, low)),
    )

-- ---- merges one after another
-- what merges have made of a problem: each label has become one of the labels that are left, and the problem that is left is a relaxation by these
pub record IsMerged (named : NamedProblem) (made : Changed) : Type 0 where
  pub image : ℕ → ℕ
  pub problem : IsProblem (unnamed made.problem)
  pub count : length made.images ≡ length named.names
  pub images : (label : ℕ) → label < length named.names → get_or made.images label None ≡ Some (image label)
  pub below : (label : ℕ) → label < length named.names → image label < length made.problem.names
  pub relaxed : IsRelaxed (unnamed named) (unnamed made.problem) image

pub IsMerged-unchanged : (named : NamedProblem) → IsProblem (unnamed named) → IsMerged named (unchanged named)
IsMerged-unchanged named is = record {
  image = λ label. label;
  problem = is;
  count = length-map' (λ (label : ℕ). Some label) (count_from 0 (length named.names)) ∙ length-count_from 0 (length named.names);
  images = λ label l.
      let m : label < length (count_from 0 (length named.names)) = omega (arith, length-count_from 0 (length named.names)) in
      let z : 0 + label ≡ label = omega arith in
      get_or-map (λ (label : ℕ). Some label) (count_from 0 (length named.names)) label 0 None m ∙ ap Some (get_or-count_from 0 (length named.names) label 0 l ∙ z);
  below = λ label l. l;
  relaxed = IsRelaxed-itself (unnamed named) is;
}

pub IsMerged-merge : (named : NamedProblem) (made : Changed) (x y : ℕ) → IsMerged named made → x < y → y < length made.problem.names → IsMerged named (changed_by (Merge x y) made)
IsMerged-merge named made x y is l m = record {
  image = λ label. image_at (new_numbers (Merge x y) made.problem) (is.image label);
  problem = IsProblem-after (Merge x y) made.problem is.problem (l, m);
  count = length-map' (λ image. option_and_then (becomes (Merge x y) made.problem) image) made.images ∙ is.count;
  images = λ label below.
      let n : label < length made.images = omega (arith, is.count) in
      get_or-map (λ image. option_and_then (becomes (Merge x y) made.problem) image) made.images label None None n
      ∙ ap (λ image. option_and_then (becomes (Merge x y) made.problem) image) (is.images label below)
      ∙ (merge-becomes x y made.problem l m (is.image label) (is.below label below)).0;
  below = λ label below. (merge-becomes x y made.problem l m (is.image label) (is.below label below)).1;
  relaxed = IsRelaxed-trans (unnamed named) (unnamed made.problem) (unnamed (after (Merge x y) made.problem)) is.image (image_at (new_numbers (Merge x y) made.problem)) is.relaxed (merge-relaxed x y made.problem);
}

-- a merge of the list is one of two labels in order
pub listed-merge : (n : ℕ) (change : Change) → In change (all_merges n) → (x : ℕ) × (y : ℕ) × (change ≡ Merge x y) × (x < y) × (y < n)
listed-merge n change i =
    let (x, j, k) = In-flat_map_from (λ x. map (λ y. Merge x y) (count_from (suc x) (n - suc x))) change (count_from 0 n) i in
    let (y, h, e) = In-map_from (λ y. Merge x y) change (count_from (suc x) (n - suc x)) k in
    let range = count_from_range (suc x) (n - suc x) y (In-Contains y (count_from (suc x) (n - suc x)) h) in
    let below = below-counted n x j in
    (x, y, e, omega (arith, range.0), omega (arith, range.1, below))

pub IsMerged-times : (named : NamedProblem) (k : ℕ) (start made : Changed) → IsMerged named start → In made (changed_times true k start) → IsMerged named made
IsMerged-times named zero start made is (inl e) = subst (IsMerged named) (sym e) is
IsMerged-times named zero start made is (inr i) = absurd i
IsMerged-times named (suc k) start made is i =
    let (change, j, h) = In-flat_map_from (λ change. changed_times true k (changed_by change start)) made (all_merges (length start.problem.names)) i in
    let (x, y, e, l, m) = listed-merge (length start.problem.names) change j in
    IsMerged-times named k (changed_by change start) made (subst (λ c. IsMerged named (changed_by c start)) (sym e) (IsMerged-merge named start x y is l m)) h

-- what at most k merges make
pub IsMerged-all : (named : NamedProblem) (k : ℕ) (made : Changed) → IsProblem (unnamed named) → In made (all_changed true k named) → IsMerged named made
IsMerged-all named k made is i =
    let (m, j, h) = In-flat_map_from (λ m. changed_times true m (unchanged named)) made (count_from 0 (suc k)) i in
    IsMerged-times named m (unchanged named) made (IsMerged-unchanged named is) h
