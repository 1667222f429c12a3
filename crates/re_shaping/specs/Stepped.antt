-- A chain with one derived step more.
use Rattle.std.specs.Prelude.{ℕ, suc, nat_le, Bool, List, [], ◌∷◌, ◌++◌, length, if◌then◌else◌, Option, Some, option_map}
use Rattle.re_problem.specs.NamedProblems.{NamedProblem, unnamed}
use Rattle.re_problem.specs.Steps.{SetEntry}
use Rattle.re_changes.specs.Changes.{unchanged}
use Rattle.re_step.specs.Derivations.{named_derived, step_limit}
use Rattle.re_step.specs.declared.derivation.StepFault.{StepFault}
use Rattle.re_step.specs.declared.derivation.StepFault.TheVariants as step_fault
use Rattle.re_cert.specs.Bounds.{Bound, BoundStep, has_row_maps, is_lower, last_problem}
use Rattle.re_cert.specs.declared.certificate.TheConstants.{MAX_STEPS}
use Rattle.re_chains.specs.Chains.{chain_with}
use Rattle.re_search.specs.Nodes.{step_to}
use Rattle.re_shaping.specs.RowForms.{step_by_rows}
use Rattle.re_shaping.specs.declared.stepping.ChainStepFault.{ChainStepFault}
use Rattle.re_shaping.specs.declared.stepping.ChainStepFault.TheVariants.{Limit, NoMemory, TooManySteps}

-- the step from a problem to its derived problem as it is: a lower one sends each set to its own label, an upper one each label to its set
abbrev pub derived_step : Bool → NamedProblem → BoundStep
derived_step lower problem = step_to lower problem (unchanged (named_derived (unnamed problem)))

-- a step in the form of the steps before it: with its map by rows where theirs are
abbrev pub in_form_of : List BoundStep → BoundStep → BoundStep
in_form_of steps s = if has_row_maps steps then step_by_rows s else s

-- the step to the derived problem of the last problem
abbrev pub next_step : Bound → BoundStep
next_step bound = in_form_of bound.steps (derived_step (is_lower bound.kind) (last_problem bound))

-- the chain with this step more
abbrev pub stepped : Bound → Bound
stepped bound = chain_with bound.kind bound.first (bound.steps ++ next_step bound ∷ [])

-- why the chain has no step more, if so: it has the most steps already, or the derived problem passes a limit, the first one
abbrev pub stepping_fault : Bound → Option ChainStepFault
stepping_fault bound = if nat_le MAX_STEPS (length bound.steps) then Some TooManySteps else option_map Limit (step_limit (unnamed (last_problem bound)))

-- the fault of a derivation
abbrev pub fault_of_step : StepFault → ChainStepFault
fault_of_step (step_fault.Limit limit) = Limit limit
fault_of_step step_fault.NoMemory = NoMemory

-- ---- what the program makes
-- each set with its own label, from this label on
abbrev pub own_entries : ℕ → List (List ℕ) → List SetEntry
own_entries label [] = []
own_entries label (set ∷ sets) = record { set = set; label = label } ∷ own_entries (suc label) sets
