-- Certificates in order: their rows, the entries and images of their maps, and their pairs.
use Rattle.std.specs.Prelude.{ℕ, Bool, List, ◌++◌, drop, length, map, if◌then◌else◌}
use Rattle.std.specs.List.{zip}
use Rattle.std.specs.Ordering.{is_lt, nat_cmp}
use Rattle.re_labels.specs.Sets.{number}
use Rattle.re_labels.specs.Rows.{row_cmp}
use Rattle.re_boxes.specs.Ordering.{is_row_before}
use Rattle.re_problem.specs.Steps.{LowerMap, SetEntry}
use Rattle.re_problem.specs.Steps.LowerMap.{by_row, by_set}
use Rattle.re_cert.specs.Bounds.{Bound, BoundStep}
use Rattle.re_shaping.specs.Orders.{in_order}

-- the order of rows that have something with them, by the rows alone
abbrev pub first_row_before : List (List ℕ) × List ℕ → List (List ℕ) × List ℕ → Bool
first_row_before one other = is_lt (row_cmp one.0 other.0)

-- the order of entries: by the numbers of their sets, or by their labels
abbrev pub set_before : SetEntry → SetEntry → Bool
set_before entry other = is_lt (nat_cmp (number entry.set) (number other.set))

abbrev pub label_before : SetEntry → SetEntry → Bool
label_before entry other = is_lt (nat_cmp entry.label other.label)

-- the order of pairs: by their first labels
abbrev pub pair_before : ℕ × ℕ → ℕ × ℕ → Bool
pair_before one other = is_lt (nat_cmp one.0 other.0)

-- the images in the order of their rows, and behind them those that have no row
abbrev pub images_in_order : List (List (List ℕ)) → List (List ℕ) → List (List ℕ)
images_in_order rows images = map (λ (pair : List (List ℕ) × List ℕ). pair.1) (in_order first_row_before (zip rows images)) ++ drop (length rows) images

-- the map in order: entries by their sets in a lower step, and by their labels in an upper one; images with their rows
abbrev pub map_in_order : Bool → List (List (List ℕ)) → LowerMap → LowerMap
map_in_order lower rows (by_set entries) = by_set (in_order (if lower then set_before else label_before) entries)
map_in_order lower rows (by_row images) = by_row (images_in_order rows images)

-- the step with its rows and its map in order
abbrev pub step_in_order : BoundStep → BoundStep
step_in_order s = record { lower = s.lower; next = s.next; rows = in_order is_row_before s.rows; map = map_in_order s.lower s.rows s.map }

-- the bound with its steps and its pairs in order
abbrev pub tidied : Bound → Bound
tidied bound = record { kind = bound.kind; back = bound.back; first = bound.first; steps = map step_in_order bound.steps; renaming = in_order pair_before bound.renaming }
