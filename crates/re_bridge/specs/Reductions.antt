-- Maps of a problem into itself, and the problem of the labels that one of them leaves.
use Rattle.std.specs.Prelude.{◌≡◌, ◌≤◌, ◌<◌, ◌↔◌, ℕ, zero, suc, nat_le, nat_lt, Bool, not, ◌&&◌, ◌||◌, List, filter, length, map, Option, None, Some}
use Rattle.std.specs.List.{list_all}
use Rattle.re_changes.specs.Renumbering.{number_among, renumbered}
use Rattle.re_labels.specs.Configs.{image_at, support_of}
use Rattle.re_labels.specs.Lists.{IsBefore, count_from}
use Rattle.re_labels.specs.Sets.{within}
use Rattle.re_laws.specs.Algorithms.{Solvable}
use Rattle.re_problem.specs.NamedProblems.{IsNamedProblem, NamedProblem, unnamed}
use Rattle.re_problem.specs.Problems.{IsProblem, Problem}
use Rattle.re_problem.specs.Steps.{IsRelaxed}
use Rattle.re_labels.specs.Constraints.{Constraint, has_config}
use Rattle.re_walks.specs.Walking.{IsAssignment, Walk, cut, found, nowhere, walk}

-- ---- maps
-- each label has an image, and by them the problem is a relaxation of itself
pub record IsEndomorphism (named : NamedProblem) (images : List ℕ) : Type 0 where
  pub assignment : IsAssignment (length named.names) (length named.names) images
  pub relaxed : IsRelaxed (unnamed named) (unnamed named) (image_at images)

-- the labels that are images, in order
abbrev pub image_set : List ℕ → List ℕ
image_set images = support_of images

-- ---- the problem that a map leaves
-- the configurations all of whose labels are among these
abbrev pub constraint_within : List ℕ → Constraint → Constraint
constraint_within labels constraint = record { degree = constraint.degree; configs = filter (λ config. within config labels) constraint.configs }

-- the problem with these labels alone, numbered anew
abbrev pub problem_within : List ℕ → NamedProblem → NamedProblem
problem_within labels named =
    renumbered labels (map (number_among labels) (count_from 0 (length named.names))) (record {
      names = named.names;
      active = constraint_within labels named.active;
      passive = constraint_within labels named.passive;
    })

-- ---- walks over the images of the labels
-- the image of the configuration is one, where its labels all have images
abbrev pub is_kept_so_far : Constraint → List ℕ → List ℕ → Bool
is_kept_so_far constraint images config = not (list_all (λ label. nat_lt label (length images)) config) || has_config constraint (map (image_at images) config)

abbrev pub keeps_so_far : Constraint → List ℕ → Bool
keeps_so_far constraint images = list_all (is_kept_so_far constraint images) constraint.configs

-- at most so many labels are images, and those of configurations are configurations
abbrev pub passes_into : ℕ → NamedProblem → List ℕ → Bool
passes_into most named images = nat_le (length (image_set images)) most && keeps_so_far named.active images && keeps_so_far named.passive images

-- the first map with at most so many images
abbrev pub walk_into : ℕ → NamedProblem → ℕ → Walk
walk_into most named tries = walk (passes_into most named) (length named.names) (length named.names) tries

-- the first walk that comes to something
abbrev pub or_later : Walk → Walk → Walk
or_later (found images) later = found images
or_later cut later = cut
or_later nowhere later = later

-- of so many walks, each to one image more than the one before
abbrev pub walk_from_most : ℕ → ℕ → NamedProblem → ℕ → Walk
walk_from_most most zero named tries = nowhere
walk_from_most most (suc more) named tries = or_later (walk_into most named tries) (walk_from_most (suc most) more named tries)

-- the first map with the fewest images, where these are fewer than the labels
abbrev pub reduction : NamedProblem → ℕ → Walk
reduction named tries = walk_from_most 0 (length named.names) named tries

-- ---- the reduced problem
-- the problem of the images of the map; where no map has fewer images than labels, the problem itself; or nothing, where a walk is cut
abbrev pub reduced_by : NamedProblem → Walk → Option NamedProblem
reduced_by named (found images) = Some (problem_within (image_set images) named)
reduced_by named nowhere = Some named
reduced_by named cut = None

abbrev pub reduced_of : NamedProblem → ℕ → Option NamedProblem
reduced_of named tries = reduced_by named (reduction named tries)

-- ---- what they mean
-- a map of the problem into itself with fewer images than labels; no other one has fewer images, and each that comes before it in
-- lexicographic order has more
pub record IsReduction (named : NamedProblem) (images : List ℕ) : Type 0 where
  pub maps : IsEndomorphism named images
  pub fewer : length (image_set images) < length named.names
  pub fewest : (others : List ℕ) → IsEndomorphism named others → length (image_set images) ≤ length (image_set others)
  pub first : (others : List ℕ) → IsEndomorphism named others → IsBefore others images → length (image_set images) < length (image_set others)

-- where none is found, each map has all labels as images
abbrev pub Reduces : NamedProblem → Walk → Type 0
Reduces named (found images) = IsReduction named images
Reduces named nowhere = (images : List ℕ) → IsEndomorphism named images → length (image_set images) ≡ length named.names
Reduces named cut = Unit {0}

abbrev pub ReductionLaw : Type 0
ReductionLaw = (named : NamedProblem) (tries : ℕ) → IsNamedProblem named → Reduces named (reduction named tries)

-- the reduced problem is solvable in T rounds exactly where the given one is
abbrev pub ReducedRoundsLaw : Type 0
ReducedRoundsLaw = (named reduced : NamedProblem) (tries T : ℕ) → IsNamedProblem named → reduced_of named tries ≡ Some reduced → Solvable (unnamed reduced) T ↔ Solvable (unnamed named) T

-- each problem to which the given one relaxes, and which relaxes to it, has at least as many labels as the reduced problem
abbrev pub LeastLabelsLaw : Type 0
LeastLabelsLaw = (named reduced : NamedProblem) (tries : ℕ) (other : Problem) (to back : ℕ → ℕ) → IsNamedProblem named → reduced_of named tries ≡ Some reduced
    → IsProblem other → IsRelaxed (unnamed named) other to → IsRelaxed other (unnamed named) back → length reduced.names ≤ other.labels
