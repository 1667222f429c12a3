-- What nodes see of their neighbours, and what they output by it.
use Rattle.std.specs.Prelude.{◌≡◌, ◌⊎◌, ℕ, ◌<◌, List, [], ◌∷◌, ◌++◌, find, length, map, slice_index_or, unwrap_or, Option, None}
use Rattle.std.specs.List.{AllByRecursion}
use Rattle.arrayvec.specs.ArrayVec.{ArrayVec}
use Rattle.re_labels.specs.Rows.{choices}
use Rattle.re_labels.specs.Constraints.{Constraint, has_config}
use Rattle.re_problem.specs.Steps.{SetEntry, set_for}
use Rattle.re_laws.specs.Trees.{IsView}
use Rattle.re_laws.specs.Algorithms.{at_port}
use Rattle.re_pool.specs.Pools.{tree_at}
use Rattle.re_pool.specs.declared.shape.Shape.{Shape}
use Rattle.re_extract.specs.declared.sights.Sight.{Sight}

-- each number is held, and stands for a view of this radius
abbrev pub AreViews : List Shape → ℕ → ℕ → ℕ → List ℕ → Type 0
AreViews pool degree other radius ids = AllByRecursion (λ id. (id < length pool) × IsView degree other radius (tree_at pool id)) ids

-- the view is the last one now, or nothing changed
abbrev pub IsPut : List ℕ → List ℕ → ℕ → Type 0
IsPut old new view = (new ≡ old) ⊎ (new ≡ old ++ view ∷ [])

-- the set that stands for the label of the neighbour, where these are the labels of the neighbours' views
abbrev pub set_over : List SetEntry → List (List ℕ) → Sight → List ℕ
set_over entries answers sight = set_for entries (at_port (slice_index_or answers sight.place []) sight.back)

-- the first choice from the sets over the ports, port 1 slowest, that is a configuration
abbrev pub choice_over : Constraint → List SetEntry → List (List ℕ) → ArrayVec Sight → Option (List ℕ)
choice_over constraint entries answers sights = find (has_config constraint) (choices (map (set_over entries answers) sights.items))

abbrev pub HasChoice : Constraint → List SetEntry → List (List ℕ) → ArrayVec Sight → Type 0
HasChoice constraint entries answers sights = choice_over constraint entries answers sights ≡ None → ⊥

-- its labels
abbrev pub labels_over : Constraint → List SetEntry → List (List ℕ) → ArrayVec Sight → List ℕ
labels_over constraint entries answers sights = unwrap_or (choice_over constraint entries answers sights) []
