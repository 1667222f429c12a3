-- The first choice that is a configuration.
use Rattle.std.specs.Prelude.{◌≡◌, ℕ, Bool, true, false, List, ◌++◌, find, Option, None, Some}
use Rattle.std.specs.List.{list_any}
use Rattle.re_labels.specs.Rows.{choices}
use Rattle.re_labels.specs.Constraints.{Constraint, has_config}

-- whether the drawn labels and some choice of one label of each set are a configuration
abbrev pub begins : Constraint → List ℕ → List (List ℕ) → Bool
begins constraint drawn sets = list_any (λ labels. has_config constraint (drawn ++ labels)) (choices sets)

-- the first choice of one label of each set that is a configuration together with the labels drawn before it
abbrev pub first_behind : Constraint → List ℕ → List (List ℕ) → Option (List ℕ)
first_behind constraint drawn sets = find (λ labels. has_config constraint (drawn ++ labels)) (choices sets)

-- the choice stands behind the drawn labels, or, where there is none, they are what they were
abbrev pub IsDrawn : Option (List ℕ) → List ℕ → Bool → List ℕ → Type 0
IsDrawn None drawn found new = (found ≡ false) × (new ≡ drawn)
IsDrawn (Some labels) drawn found new = (found ≡ true) × (new ≡ drawn ++ labels)
