-- The first choice that is no configuration.
use Rattle.std.specs.Prelude.{ℕ, Bool, not, List, ◌++◌, find, Option}
use Rattle.std.specs.List.{list_any}
use Rattle.re_labels.specs.Rows.{choices}
use Rattle.re_labels.specs.Constraints.{Constraint, has_config}

-- the labels are no configuration
abbrev pub is_bad : Constraint → List ℕ → Bool
is_bad constraint labels = not (has_config constraint labels)

-- the first choice of one label of each set that is no configuration
abbrev pub first_bad : Constraint → List (List ℕ) → Option (List ℕ)
first_bad constraint sets = find (is_bad constraint) (choices sets)

-- whether the drawn labels and some choice of one label of each set are no configuration
abbrev pub begins : Constraint → List ℕ → List (List ℕ) → Bool
begins constraint drawn sets = list_any (λ labels. is_bad constraint (drawn ++ labels)) (choices sets)

-- the first choice of one label of each set that is no configuration together with the labels drawn before it
abbrev pub first_behind : Constraint → List ℕ → List (List ℕ) → Option (List ℕ)
first_behind constraint drawn sets = find (λ labels. is_bad constraint (drawn ++ labels)) (choices sets)
