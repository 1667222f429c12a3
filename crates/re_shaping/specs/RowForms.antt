-- Maps by sets, written by rows.
use Rattle.std.specs.Prelude.{◌≡◌, ℕ, true, List, map, if◌then◌else◌}
use Rattle.re_problem.specs.Steps.{LowerMap, SetEntry, label_of}
use Rattle.re_problem.specs.Steps.LowerMap.{by_row, by_set}
use Rattle.re_cert.specs.Bounds.{Bound, BoundStep}
use Rattle.re_check.specs.StepClauses.{HasRowSets}

-- the images of the rows by the entries: for each set of a row the label of its entry
abbrev pub row_form : List (List (List ℕ)) → List SetEntry → List (List ℕ)
row_form rows entries = map (map (label_of entries)) rows

-- the map written by rows; a map by rows stays
abbrev pub map_by_rows : List (List (List ℕ)) → LowerMap → LowerMap
map_by_rows rows (by_set entries) = by_row (row_form rows entries)
map_by_rows rows (by_row images) = by_row images

-- the lower step with its map by rows; an upper step stays
abbrev pub step_by_rows : BoundStep → BoundStep
step_by_rows s = record { lower = s.lower; next = s.next; rows = s.rows; map = if s.lower then map_by_rows s.rows s.map else s.map }

-- the bound with the maps of its lower steps by rows
abbrev pub by_rows : Bound → Bound
by_rows bound = record { kind = bound.kind; back = bound.back; first = bound.first; steps = map step_by_rows bound.steps; renaming = bound.renaming }

-- where the map is by sets, its entries have exactly the sets of the rows
abbrev pub HasSets : List (List (List ℕ)) → LowerMap → Type 0
HasSets rows (by_set entries) = HasRowSets rows entries
HasSets rows (by_row images) = Unit {0}

-- a lower step has the sets of its rows
abbrev pub HasStepSets : BoundStep → Type 0
HasStepSets s = s.lower ≡ true → HasSets s.rows s.map
