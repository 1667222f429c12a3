-- Sets of labels for the labels of an input problem, found by a walk: each active configuration of the input problem becomes one of the
-- problem, and an input label gets the labels that it becomes; one that stands in no active configuration becomes any label.
use Rattle.std.specs.Prelude.{◌≡◌, ℕ, ◌==◌, ◌-◌, nat_lt, Bool, true, not, ◌&&◌, List, [], ◌∷◌, ◌++◌, length, map, filter, flat_map, take, drop, if◌then◌else◌, slice_index_or, Option, None, Some}
use Rattle.re_labels.specs.Lists.{count_from}
use Rattle.re_labels.specs.Rows.{set_at, singles}
use Rattle.re_labels.specs.Constraints.{Constraint, has_config}
use Rattle.re_problem.specs.NamedProblems.{occurs}
use Rattle.re_problem.specs.Problems.{Problem}
use Rattle.re_problem.specs.Steps.{SetEntry}
use Rattle.re_check.specs.LabelsOver.{labels_over}
use Rattle.re_check.specs.RowEntries.{row_entries}
use Rattle.re_check.specs.Clauses.{keep_allowed}
use Rattle.re_walks.specs.Begun.{is_begun}
use Rattle.re_walks.specs.Walking.{Walk, found, nowhere, walk}

-- ---- the places
-- whether the configuration of this degree has this last label
abbrev pub ends_in : ℕ → ℕ → List ℕ → Bool
ends_in degree label config = slice_index_or config (degree - 1) 0 == label

-- the configurations of labels below n, those with a lower last label first
abbrev pub by_last : Constraint → ℕ → List (List ℕ)
by_last constraint n = flat_map (λ label. filter (ends_in constraint.degree label) constraint.configs) (count_from 0 n)

-- the active configurations of the input problem in this order
abbrev pub ordered : Problem → List (List ℕ)
ordered input = by_last input.active input.labels

-- the input labels of configurations, one configuration behind the other
abbrev pub joined : List (List ℕ) → List ℕ
joined configs = flat_map (λ config. config) configs

-- the input labels that stand in no active configuration
abbrev pub loose : Constraint → ℕ → List ℕ
loose active n = filter (λ label. not (occurs active label)) (count_from 0 n)

-- the places: those of the labels of these configurations, each with the set of its input label, and behind them one for each input label
-- that stands in none
abbrev pub places : Problem → List (List ℕ)
places input = singles (joined (ordered input) ++ loose input.active input.labels)

-- ---- labels for the first places
-- whether labels at places with the same input label ascend
abbrev pub is_in_order : List ℕ → List ℕ → Bool
is_in_order [] labels = true
is_in_order (x ∷ config) [] = true
is_in_order (x ∷ []) (label ∷ labels) = true
is_in_order (x ∷ y ∷ config) (label ∷ []) = true
is_in_order (x ∷ y ∷ config) (label ∷ next ∷ labels) = not (x == y && nat_lt next label) && is_in_order (y ∷ config) (next ∷ labels)

-- whether the labels are a configuration, and in order at the places of the input configuration
abbrev pub is_image : Constraint → List ℕ → List ℕ → Bool
is_image active config labels = is_in_order config labels && has_config active labels

-- whether the labels begin one
abbrev pub begins_image : Constraint → ℕ → List ℕ → List ℕ → Bool
begins_image active n config labels = is_in_order config labels && is_begun active n labels

-- whether the labels are images of the first configurations, and behind them the beginning of one
abbrev pub are_images : Constraint → ℕ → List (List ℕ) → List ℕ → Bool
are_images active n [] labels = true
are_images active n (config ∷ configs) labels =
    if nat_lt (length labels) active.degree then begins_image active n config labels
    else is_image active config (take active.degree labels) && are_images active n configs (drop active.degree labels)

-- the labels of the first places are images of active configurations, and for each passive one each choice of a label that each of its
-- labels becomes is passive
abbrev pub passes_with : Problem → Constraint → List (List ℕ) → List (List ℕ) → List ℕ → Bool
passes_with problem passive configs places labels =
    are_images problem.active problem.labels configs labels && keep_allowed passive problem.passive (row_entries places labels)

abbrev pub passes : Problem → Problem → List ℕ → Bool
passes problem input labels = passes_with problem input.passive (ordered input) (places input) labels

-- the problem of so many labels that may stand so
abbrev pub problem_with : ℕ → Constraint → Constraint → Problem
problem_with labels active passive = record { labels = labels; active = active; passive = passive }

-- ---- the sets
-- for each input label the labels that it becomes
abbrev pub sets_for : Problem → List ℕ → List (List ℕ)
sets_for input labels = map (labels_over (row_entries (places input) labels)) (count_from 0 input.labels)

-- as the entries of an upper step: each set with its label
abbrev pub entries_of : List (List ℕ) → List SetEntry
entries_of sets = map (λ label. record { set = set_at sets label; label = label }) (count_from 0 (length sets))

-- the walk over the labels of the places
abbrev pub fit_walk : Problem → Problem → ℕ → Walk
fit_walk problem input tries = walk (passes problem input) problem.labels (length (places input)) tries

-- what is found are the sets of the first labels that pass; or nothing where none pass
abbrev pub IsFound : Problem → Problem → ℕ → Option (List (List ℕ)) → Type 0
IsFound problem input tries None = fit_walk problem input tries ≡ nowhere
IsFound problem input tries (Some sets) = (labels : List ℕ) × (fit_walk problem input tries ≡ found labels) × (sets ≡ sets_for input labels)
