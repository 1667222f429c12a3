-- A chain of kind upper with one step more, by sets that a walk finds.
use Rattle.std.specs.Prelude.{◌≡◌, ℕ, false, List, [], ◌∷◌, ◌++◌, if◌then◌else◌, Option, None, Some}
use Rattle.re_problem.specs.NamedProblems.{NamedProblem, unnamed}
use Rattle.re_problem.specs.Steps.LowerMap.{by_set}
use Rattle.re_cert.specs.Bounds.{Bound, BoundStep, last_problem}
use Rattle.re_cert.specs.declared.certificate.Kind.TheVariants.{Upper}
use Rattle.re_chains.specs.Chains.{IsSoundChain, chain_with}
use Rattle.re_check.specs.Clauses.{are_exchanged}
use Rattle.re_given.specs.Inputs.{exchanged}
use Rattle.re_walks.specs.Walking.{Walk, found, nowhere}
use Rattle.re_settings.specs.Fits.{entries_of, fit_walk, sets_for}

-- the upper step to the next problem by these sets
abbrev pub upper_step : NamedProblem → List (List ℕ) → BoundStep
upper_step next sets = record { lower = false; next = next; rows = []; map = by_set (entries_of sets) }

-- the walk for such sets, which finds none where the degrees aren't exchanged
abbrev pub upper_walk : NamedProblem → NamedProblem → ℕ → Walk
upper_walk before next tries = if are_exchanged before next then fit_walk (unnamed before) (exchanged (unnamed next)) tries else nowhere

-- the sets by the labels that it finds
abbrev pub sets_by : NamedProblem → List ℕ → List (List ℕ)
sets_by next labels = sets_for (exchanged (unnamed next)) labels

-- the chain with the step by these sets
abbrev pub upper_bridged : Bound → NamedProblem → List (List ℕ) → Bound
upper_bridged bound next sets = chain_with Upper bound.first (bound.steps ++ upper_step next sets ∷ [])

-- what is found is the chain with the step by the sets of the walk, and sound; nothing is where there are no such sets
abbrev pub IsUpperBridged : Bound → NamedProblem → ℕ → Option Bound → Type 0
IsUpperBridged bound next tries None = upper_walk (last_problem bound) next tries ≡ nowhere
IsUpperBridged bound next tries (Some chain) =
    (labels : List ℕ) × (upper_walk (last_problem bound) next tries ≡ found labels) × (chain ≡ upper_bridged bound next (sets_by next labels)) × IsSoundChain chain
