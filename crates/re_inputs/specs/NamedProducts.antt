-- The product of a problem and an input problem of it, with names for its labels.
use Rattle.std.specs.Prelude.{◌≡◌, ℕ, ◌*◌, ◌/◌, ◌%◌, ◌<◌, ◌↔◌, nat_lt, Bool, not, ◌||◌, List, [], ◌++◌, find, length, map, slice_index_or, if◌then◌else◌, Option, None, Some, Result, Ok, Err}
use Rattle.std.specs.List.{list_any}
use Rattle.re_given.specs.Given.{SolvableGiven}
use Rattle.re_given.specs.Inputs.{IsInput}
use Rattle.re_given.specs.Products.{product}
use Rattle.re_labels.specs.ListSets.{list_set}
use Rattle.re_labels.specs.Lists.{count_from, place_of, same_list}
use Rattle.re_labels.specs.Names.{is_name}
use Rattle.re_labels.specs.declared.TheConstants.{MAX_LABELS}
use Rattle.re_problem.specs.NamedProblems.{IsNamedProblem, NamedProblem, unnamed}
use Rattle.re_labels.specs.Constraints.{Constraint, images_of}
use Rattle.re_labels.specs.declared.constraint_table.TheConstants.{MAX_CONFIGURATIONS}
use Rattle.re_inputs.specs.declared.products.ProductFault.{ProductFault}
use Rattle.re_inputs.specs.declared.products.ProductFault.TheVariants.{Nameless, NoMemory, TooManyConfigurations, TooManyLabels}

-- ---- names
-- how many pairs there are
abbrev pub pair_count : NamedProblem → NamedProblem → ℕ
pair_count problem input = length problem.names * length input.names

-- the name of a pair: that of its first part, and behind it that of its second part
abbrev pub pair_name : NamedProblem → NamedProblem → ℕ → List ℕ
pair_name problem input pair = slice_index_or problem.names (pair / length input.names) [] ++ slice_index_or input.names (pair % length input.names) []

-- the names of so many pairs, the first ones
abbrev pub pair_names : NamedProblem → NamedProblem → ℕ → List (List ℕ)
pair_names problem input count = map (pair_name problem input) (count_from 0 count)

-- whether the two names make none: they have too many bytes
abbrev pub is_long : NamedProblem → NamedProblem → ℕ → Bool
is_long problem input pair = not (is_name (pair_name problem input pair))

-- whether an earlier pair has the same name
abbrev pub is_taken : NamedProblem → NamedProblem → ℕ → Bool
is_taken problem input pair = list_any (same_list (pair_name problem input pair)) (pair_names problem input pair)

-- whether the pair has no name of its own
abbrev pub is_nameless : NamedProblem → NamedProblem → ℕ → Bool
is_nameless problem input pair = is_long problem input pair || is_taken problem input pair

-- the first such pair
abbrev pub nameless : NamedProblem → NamedProblem → Option ℕ
nameless problem input = find (is_nameless problem input) (count_from 0 (pair_count problem input))

-- ---- the product
-- the names of all pairs, in order
abbrev pub product_names : NamedProblem → NamedProblem → List (List ℕ)
product_names problem input = list_set (pair_names problem input (pair_count problem input))

-- the label of each pair: the place of its name
abbrev pub product_labels : NamedProblem → NamedProblem → List ℕ
product_labels problem input = map (λ pair. place_of (product_names problem input) (pair_name problem input pair)) (count_from 0 (pair_count problem input))

-- a side of the product by these labels
abbrev pub relabelled : List ℕ → Constraint → Constraint
relabelled labels constraint = record { degree = constraint.degree; configs = images_of labels constraint }

-- the product, the labels numbered in the order of their names
abbrev pub named_product : NamedProblem → NamedProblem → NamedProblem
named_product problem input = record {
  names = product_names problem input;
  active = relabelled (product_labels problem input) (product (unnamed problem) (unnamed input)).active;
  passive = relabelled (product_labels problem input) (product (unnamed problem) (unnamed input)).passive;
}

-- ---- what it may have too many of
-- whether a side has more configurations than a constraint may have
abbrev pub is_full : NamedProblem → NamedProblem → Bool
is_full problem input =
    nat_lt MAX_CONFIGURATIONS (length (product (unnamed problem) (unnamed input)).active.configs)
    || nat_lt MAX_CONFIGURATIONS (length (product (unnamed problem) (unnamed input)).passive.configs)

abbrev pub full_fault : Bool → Option ProductFault
full_fault full = if full then Some TooManyConfigurations else None

abbrev pub name_fault : Option ℕ → Option ProductFault → Option ProductFault
name_fault (Some pair) later = Some (Nameless pair)
name_fault None later = later

-- the first reason for which it isn't given: too many labels, a pair without a name of its own, or too many configurations
abbrev pub product_fault : NamedProblem → NamedProblem → Option ProductFault
product_fault problem input =
    if nat_lt MAX_LABELS (pair_count problem input) then Some TooManyLabels else name_fault (nameless problem input) (full_fault (is_full problem input))

-- the product is given exactly where there is no such reason, and else the first one
abbrev pub ProductRefuses : NamedProblem → NamedProblem → ProductFault → Type 0
ProductRefuses problem input TooManyLabels = product_fault problem input ≡ Some TooManyLabels
ProductRefuses problem input (Nameless pair) = (product_fault problem input ≡ Some (Nameless pair)) × (pair < pair_count problem input)
ProductRefuses problem input TooManyConfigurations = product_fault problem input ≡ Some TooManyConfigurations
ProductRefuses problem input NoMemory = Unit {0}

abbrev pub ProductGives : NamedProblem → NamedProblem → Result NamedProblem ProductFault → Type 0
ProductGives problem input (Ok made) = (product_fault problem input ≡ None) × (made ≡ named_product problem input)
ProductGives problem input (Err fault) = ProductRefuses problem input fault

-- ---- what it is worth
-- given the input problem, it is solvable in as many rounds as the problem
abbrev pub NamedProductLaw : Type 0
NamedProductLaw = (problem input : NamedProblem) (T : ℕ) → IsNamedProblem problem → IsInput (unnamed problem) (unnamed input) → product_fault problem input ≡ None →
    SolvableGiven (unnamed problem) (unnamed input) T ↔ SolvableGiven (unnamed (named_product problem input)) (unnamed input) T
