-- The steps of a route behind a problem, which may begin with a merge of two of its labels.
use Rattle.std.specs.Prelude.{ℕ, ◌==◌, nat_le, ◌&&◌, Bool, true, not, List, [], ◌∷◌, length, if◌then◌else◌, Option, None, Some, is_none}
use Rattle.std.specs.List.{list_all}
use Rattle.re_cert.specs.Bounds.{Bound, BoundStep, is_by_row, is_label, last_problem}
use Rattle.re_shaping.specs.Chains.{step_along}
use Rattle.re_shaping.specs.Merging.{first_merged, merged_problem}
use Rattle.re_shaping.specs.Relaxing.{relaxed_limit}
use Rattle.re_labels.specs.declared.TheConstants.{MAX_ROWS}
use Rattle.re_shaping.specs.Along.{image_left, steps_along}
use Rattle.re_shaping.specs.declared.routing.Route.{Route}
use Rattle.re_shaping.specs.declared.along.Stop.{Stop}
use Rattle.re_problem.specs.NamedProblems.{NamedProblem}
use Rattle.re_labels.specs.GoodRows.{max_rows}

-- two labels of the problem
abbrev pub are_two : ℕ × ℕ → NamedProblem → Bool
are_two merge problem = is_label problem merge.0 && is_label problem merge.1 && not (merge.0 == merge.1)

-- the step from a problem to the derived problem of the one in which a label has become another, its map sent along to a stop; if it passes no limit
abbrev pub merge_step : ℕ × ℕ → NamedProblem → Stop → Option BoundStep
merge_step merge before stop =
    if is_none (relaxed_limit before (merged_problem merge.0 merge.1 before)) then Some (step_along (image_left stop.images.items) stop.problem (first_merged merge.0 merge.1 before)) else None

-- the same, if they are two labels of the problem
abbrev pub first_step : ℕ × ℕ → NamedProblem → Stop → Option BoundStep
first_step merge before stop = if are_two merge before then merge_step merge before stop else None

-- a first step and those along the stops behind it, all with maps by rows; none without the first
abbrev pub steps_behind : Option BoundStep → List Stop → List BoundStep
steps_behind None stops = []
steps_behind (Some first) stops = first ∷ steps_along true first.next stops

abbrev pub merge_steps : ℕ × ℕ → NamedProblem → List Stop → List BoundStep
merge_steps merge before [] = []
merge_steps merge before (stop ∷ stops) = steps_behind (first_step merge before stop) stops

-- the steps along stops, or those that begin with the merge
abbrev pub steps_from : Option (ℕ × ℕ) → Bool → NamedProblem → List Stop → List BoundStep
steps_from None by_rows before stops = steps_along by_rows before stops
steps_from (Some merge) by_rows before stops = merge_steps merge before stops

-- the steps of a route from a problem
abbrev pub route_steps : Bool → NamedProblem → Route → List BoundStep
route_steps by_rows before route = steps_from route.merge by_rows before route.stops.items

-- no more maximal rows than a step may have
abbrev pub has_few_rows : NamedProblem → Bool
has_few_rows problem = nat_le (length (max_rows problem.passive (length problem.names))) MAX_ROWS

-- the maps of all steps are by rows
abbrev pub are_by_row : List BoundStep → Bool
are_by_row steps = list_all (λ (s : BoundStep). is_by_row s.map) steps

-- such steps can stand behind the chain: the maps of its own are by rows, and its last problem has few enough rows for a step
abbrev pub takes_merges : Bound → Bool
takes_merges chain = are_by_row chain.steps && has_few_rows (last_problem chain)
