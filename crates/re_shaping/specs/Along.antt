-- The steps along a path of problems, each of which changes have made of the derived problem of the one before it.
use Rattle.std.specs.Prelude.{ℕ, Bool, true, List, [], ◌∷◌, length, map, if◌then◌else◌, Option, None, Some, is_none, slice_index_or, unwrap_or}
use Rattle.re_labels.specs.Lists.{place_of}
use Rattle.re_labels.specs.GoodRows.{max_rows, max_sets}
use Rattle.re_problem.specs.NamedProblems.{NamedProblem, unnamed}
use Rattle.re_problem.specs.Steps.{LowerMap}
use Rattle.re_problem.specs.Steps.LowerMap.{by_row, by_set}
use Rattle.re_cert.specs.Bounds.{BoundStep}
use Rattle.re_step.specs.Derivations.{step_limit}
use Rattle.re_search.specs.Nodes.{entries_of}
use Rattle.re_shaping.specs.declared.along.Stop.{Stop}

-- what the label at a place has become, and 0 where there is none, or it isn't left
abbrev pub image_left : List (Option ℕ) → ℕ → ℕ
image_left images place = unwrap_or (slice_index_or images place None) 0

-- the label that a set has become, and 0 where it is none of the sets, or isn't left
abbrev pub label_left : List (List ℕ) → List (Option ℕ) → List ℕ → ℕ
label_left sets images set = image_left images (place_of sets set)

-- the map to the labels that the sets have become: by rows, or by those sets whose labels are left
abbrev pub map_along : Bool → List (List ℕ) → List (List (List ℕ)) → List (Option ℕ) → LowerMap
map_along by_rows sets rows images = if by_rows then by_row (map (map (label_left sets images)) rows) else by_set (entries_of sets images)

-- the lower step from a problem to a stop, with the maximal rows
abbrev pub step_along : Bool → NamedProblem → Stop → BoundStep
step_along by_rows before stop = record {
  lower = true;
  next = stop.problem;
  rows = max_rows before.passive (length before.names);
  map = map_along by_rows (max_sets before.passive (length before.names)) (max_rows before.passive (length before.names)) stop.images.items;
}

-- the step, if the derived problem passes no limit
abbrev pub step_found : Bool → NamedProblem → Stop → Option BoundStep
step_found by_rows before stop = if is_none (step_limit (unnamed before)) then Some (step_along by_rows before stop) else None

-- the steps from stop to stop; a stop to which no step leads is passed over
abbrev pub steps_along : Bool → NamedProblem → List Stop → List BoundStep
steps_along by_rows before [] = []
steps_along by_rows before (stop ∷ path) =
    if is_none (step_limit (unnamed before)) then step_along by_rows before stop ∷ steps_along by_rows stop.problem path
    else steps_along by_rows before path
