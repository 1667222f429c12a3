-- The map of a lower step between two problems.
use Rattle.std.specs.Prelude.{◌≡◌, ◌≤◌, ℕ, ◌==◌, ◌*◌, ◌/◌, nat_lt, Bool, true, not, ◌&&◌, ◌||◌, List, length, map, take, drop, if◌then◌else◌, Option, None, Some}
use Rattle.std.specs.List.{list_all, list_any}
use Rattle.re_labels.specs.declared.TheConstants.{MAX_ROWS}
use Rattle.re_labels.specs.Lists.{count_from, same_list}
use Rattle.re_labels.specs.Constraints.{Constraint, has_config}
use Rattle.re_labels.specs.GoodRows.{max_rows, max_sets}
use Rattle.re_problem.specs.NamedProblems.{NamedProblem}
use Rattle.re_problem.specs.Steps.{LowerMap, SetEntry, entry_sets, label_of}
use Rattle.re_problem.specs.Steps.LowerMap.{by_row, by_set}
use Rattle.re_cert.specs.Bounds.{BoundStep, step_with}
use Rattle.re_cert.specs.declared.certificate.StepParts.{StepParts}
use Rattle.re_check.specs.RowEntries.{row_entries}
use Rattle.re_check.specs.Clauses.{are_exchanged, keep_allowed, keep_allowed_by_row, keep_images}
use Rattle.re_walks.specs.Begun.{is_begun}
use Rattle.re_walks.specs.Walking.{Walk, cut, found, nowhere, walk}

-- the maximal rows of the passive constraint, and their different sets, in order
abbrev pub rows_of : NamedProblem → List (List (List ℕ))
rows_of before = max_rows before.passive (length before.names)

abbrev pub sets_of : NamedProblem → List (List ℕ)
sets_of before = max_sets before.passive (length before.names)

-- the lower step to the next problem with this map
abbrev pub step_by : NamedProblem → NamedProblem → LowerMap → BoundStep
step_by before next map = record { lower = true; next = next; rows = rows_of before; map = map }

-- ---- by sets: the places are the sets
-- the entries of the sets that have labels: the first sets
abbrev pub entries_for : NamedProblem → List ℕ → List SetEntry
entries_for before labels = row_entries (sets_of before) labels

-- whether each set of the row has an entry
abbrev pub has_entries : List SetEntry → List (List ℕ) → Bool
has_entries entries row = list_all (λ set. list_any (λ other. same_list other set) (entry_sets entries)) row

-- the image of each row whose sets have entries is a configuration
abbrev pub keep_rows_so_far : Constraint → List (List (List ℕ)) → List SetEntry → Bool
keep_rows_so_far active rows entries = list_all (λ row. not (has_entries entries row) || has_config active (map (label_of entries) row)) rows

-- the images of the rows and of the allowed multisets whose sets have labels are configurations
abbrev pub passes_by_set : NamedProblem → NamedProblem → List ℕ → Bool
passes_by_set before next labels =
    keep_rows_so_far next.active (rows_of before) (entries_for before labels) && keep_allowed before.active next.passive (entries_for before labels)

-- ---- by rows: the places are those of the sets of each row, one row after another
-- the image of the row at a place: its d labels
abbrev pub image_of : ℕ → List ℕ → ℕ → List ℕ
image_of d labels row = take d (drop (row * d) labels)

-- the images of the rows all of whose places have labels
abbrev pub images_for : ℕ → List ℕ → List (List ℕ)
images_for d labels = map (image_of d labels) (count_from 0 (length labels / d))

-- the labels behind those images
abbrev pub rest_of : ℕ → List ℕ → List ℕ
rest_of d labels = drop (length labels / d * d) labels

-- where the last image isn't whole, its labels begin a configuration; where it is, the images are configurations, and so is each choice
-- of a label that the sets of an allowed multiset become
abbrev pub passes_by_row : NamedProblem → NamedProblem → List ℕ → Bool
passes_by_row before next labels =
    if length (rest_of next.active.degree labels) == 0
    then keep_images next.active (images_for next.active.degree labels)
    && keep_allowed_by_row (length before.names) before.active next.passive (rows_of before) (images_for next.active.degree labels)
    else is_begun next.active (length next.names) (rest_of next.active.degree labels)

-- ---- the bridge
-- the map of a lower step, or that there is none, or that the tries of a walk don't suffice
pub data Bridge : Type 0 where
  over : LowerMap → Bridge
  missing : Bridge
  cut_off : Bridge

abbrev pub walk_by_set : NamedProblem → NamedProblem → ℕ → Walk
walk_by_set before next tries = walk (passes_by_set before next) (length next.names) (length (sets_of before)) tries

abbrev pub walk_by_row : NamedProblem → NamedProblem → ℕ → Walk
walk_by_row before next tries = walk (passes_by_row before next) (length next.names) (length (rows_of before) * next.active.degree) tries

-- the map by rows that a walk finds
abbrev pub row_bridge : NamedProblem → Walk → Bridge
row_bridge next (found labels) = over (by_row (images_for next.active.degree labels))
row_bridge next nowhere = missing
row_bridge next cut = cut_off

-- the map by sets that a walk finds, and where there is none, the map by rows that a walk with as many tries finds
abbrev pub set_bridge : NamedProblem → NamedProblem → ℕ → Walk → Bridge
set_bridge before next tries (found labels) = over (by_set (entries_for before labels))
set_bridge before next tries nowhere = row_bridge next (walk_by_row before next tries)
set_bridge before next tries cut = cut_off

-- the bridge between two problems: where the degrees are exchanged, the first map by sets, else the first by rows
abbrev pub bridge_of : NamedProblem → NamedProblem → ℕ → Bridge
bridge_of before next tries = if are_exchanged before next then set_bridge before next tries (walk_by_set before next tries) else missing

-- whether there are more rows than a step may have, where the degrees are exchanged
abbrev pub has_many_rows : NamedProblem → NamedProblem → Bool
has_many_rows before next = are_exchanged before next && nat_lt MAX_ROWS (length (rows_of before))

-- what is found are the parts of the step by the map of the bridge, with few rows; or nothing where the map is missing
abbrev pub IsFound : NamedProblem → NamedProblem → ℕ → Option StepParts → Type 0
IsFound before next tries None = bridge_of before next tries ≡ missing
IsFound before next tries (Some parts) = (map : LowerMap) × (bridge_of before next tries ≡ over map) × (step_with next parts ≡ step_by before next map) × (length (rows_of before) ≤ MAX_ROWS)
