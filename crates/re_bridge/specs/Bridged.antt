-- A chain of kind lower with one step more, over a bridge.
use Rattle.std.specs.Prelude.{◌≡◌, ℕ, List, [], ◌∷◌, ◌++◌, map, if◌then◌else◌, Option, None, Some}
use Rattle.re_problem.specs.NamedProblems.{NamedProblem}
use Rattle.re_problem.specs.Steps.{LowerMap}
use Rattle.re_cert.specs.Bounds.{Bound, BoundStep, has_row_maps, last_problem}
use Rattle.re_cert.specs.declared.certificate.Kind.TheVariants.{Lower}
use Rattle.re_chains.specs.Chains.{IsSoundChain, chain_with}
use Rattle.re_shaping.specs.RowForms.{step_by_rows}
use Rattle.re_bridge.specs.Bridges.{bridge_of, missing, over, step_by}

-- the steps with maps of one form: where some map is by rows, all are written by rows
abbrev pub in_one_form : List BoundStep → List BoundStep
in_one_form steps = if has_row_maps steps then map step_by_rows steps else steps

-- the chain with the step to the next problem by this map
abbrev pub bridged : Bound → NamedProblem → LowerMap → Bound
bridged bound next map = chain_with Lower bound.first (in_one_form (bound.steps ++ step_by (last_problem bound) next map ∷ []))

-- what is found is the chain with the step by the map of the bridge, and sound; nothing is where the map is missing
abbrev pub IsBridged : Bound → NamedProblem → ℕ → Option Bound → Type 0
IsBridged bound next tries None = bridge_of (last_problem bound) next tries ≡ missing
IsBridged bound next tries (Some chain) = (map : LowerMap) × (bridge_of (last_problem bound) next tries ≡ over map) × (chain ≡ bridged bound next map) × IsSoundChain chain
