-- What the closure of the last problem of a chain comes to, where a diagram raises that problem first.
use Rattle.std.specs.Prelude.{◌≡◌, ℕ, ◌+◌, ◌<◌, ◌≤◌, ◌⊎◌, true, List, [], ◌∷◌, ◌++◌, length, map, Some, None}
use Rattle.re_algo.specs.Constructions.{top_places}
use Rattle.re_cert.specs.Bounds.{Bound, BoundStep, last_problem}
use Rattle.re_cert.specs.declared.certificate.Kind.TheVariants.{Fixed, Lower}
use Rattle.re_cert.specs.declared.certificate.TheConstants.{MAX_STEPS}
use Rattle.re_shaping.specs.Relaxing.{relaxed_step}
use Rattle.re_chains.specs.Chains.{chain_with}
use Rattle.re_shaping.specs.RowForms.{by_rows}
use Rattle.re_labels.specs.Configs.{image_at}
use Rattle.re_labels.specs.declared.TheConstants.{MAX_ROWS}
use Rattle.re_shaping.specs.Extensions.{GoesOn}
use Rattle.re_labels.specs.Lists.{count_from}
use Rattle.re_labels.specs.declared.TheConstants.{MAX_LABELS}
use Rattle.re_problem.specs.NamedProblems.{NamedProblem, unnamed}
use Rattle.re_problem.specs.Problems.{IsProblem, Problem}
use Rattle.re_problem.specs.Steps.LowerMap.{by_row}
use Rattle.re_problem.specs.Steps.{IsLowerStepByRow, IsRelaxed}
use Rattle.re_problem.specs.Zero.{zero_place}
use Rattle.re_labels.specs.GoodRows.{max_rows}
use Rattle.re_labels.specs.declared.constraint_table.TheConstants.{MAX_CONFIGURATIONS}
use Rattle.re_closure_laws.specs.Closures.{AreClosure}
use Rattle.re_closure_laws.specs.Lines.{Family, problem_of}
use Rattle.re_closure.specs.Closures.{HasRoom, IsSolvableBy}
use Rattle.re_closure.specs.Diagrams.{raised}
use Rattle.re_closure.specs.Limits.{IsSmallClosure, PassesLimit}
use Rattle.re_closure.specs.Sides.{bound_by, named_of}
use Rattle.re_closure.specs.declared.types.Closing.{Closing}
use Rattle.re_closure.specs.declared.types.Closing.TheVariants.{Found, Solvable, SolvableClosure}
use Rattle.re_closure.specs.declared.types.ClosureLimit.{ClosureLimit}
use Rattle.re_closure.specs.declared.types.ClosureLimit.TheVariants.{Configurations, Rows, Steps}

-- ---- the step to the problem between
-- where the maximal rows of a problem go: place by place to the sets of the first maximal row of a relaxation that dominates the row, each by its label
abbrev pub raised_images : Problem → Problem → Family → List (List ℕ)
raised_images problem relaxed passive = map (top_places (max_rows relaxed.passive relaxed.labels) passive.sets) (max_rows problem.passive problem.labels)

-- the step from a problem to the problem between that goes with the closure of a relaxation
abbrev pub raised_step : Problem → Problem → Family → Family → BoundStep
raised_step problem relaxed active passive = record {
  lower = true;
  next = named_of passive active;
  rows = max_rows problem.passive problem.labels;
  map = by_row (raised_images problem relaxed passive);
}

-- that is a lower step, whatever relaxation it is in which each label stays
abbrev pub RaisedStepLaw : Type 0
RaisedStepLaw = (problem relaxed : Problem) (active passive : Family) → IsProblem relaxed → problem.labels ≡ relaxed.labels → IsRelaxed problem relaxed (λ x. x)
    → AreClosure relaxed active passive → IsLowerStepByRow problem (problem_of passive active) (max_rows problem.passive problem.labels) (raised_images problem relaxed passive)

-- ---- the chain
-- the fixed point that goes on from the chain, its maps by rows: from its last problem by that step, to the closure of the raised problem, and back
abbrev pub raised_bound : List (ℕ × ℕ) → Bound → Family → Family → Bound
raised_bound edges chain active passive =
    bound_by true (by_rows chain) (raised_step (unnamed (last_problem chain)) (unnamed (raised edges (last_problem chain))) active passive) active passive

-- the raised problem has few passive configurations, and the problem few maximal rows
pub record MayRise (edges : List (ℕ × ℕ)) (problem : NamedProblem) : Type 0 where
  pub configs : length (raised edges problem).passive.configs ≤ MAX_CONFIGURATIONS
  pub rows : length (max_rows problem.passive (length problem.names)) ≤ MAX_ROWS

-- the bound is the chain, its maps by rows, with the steps to the closure of the raised problem and back; that closure isn't solvable without communication, and
-- the bound goes on from the chain
pub record IsRaisedClosed (edges : List (ℕ × ℕ)) (chain bound : Bound) : Type 0 where
  pub may : MayRise edges (last_problem chain)
  pub active : Family
  pub passive : Family
  pub closure : IsSmallClosure (unnamed (raised edges (last_problem chain))) active passive
  pub not_zero : zero_place (problem_of active passive) ≡ None
  pub bound_is : bound ≡ raised_bound edges chain active passive
  pub goes_on : GoesOn Fixed 3 MAX_LABELS (by_rows chain) bound

-- the closure of the raised problem is solvable without communication, as the labels of its first configuration with this property show, which stand for these sets
abbrev pub IsRaisedSolvableBy : List (ℕ × ℕ) → NamedProblem → List (List ℕ) → Type 0
IsRaisedSolvableBy edges problem sets = MayRise edges problem × IsSolvableBy (raised edges problem) sets

-- the limit that is passed: of passive configurations of the raised problem, of maximal rows of the problem, or one of the closure of the raised problem
abbrev pub PassesRaised : List (ℕ × ℕ) → NamedProblem → ClosureLimit → Type 0
PassesRaised edges problem Configurations =
    MAX_CONFIGURATIONS < length (raised edges problem).passive.configs ⊎ (MayRise edges problem × PassesLimit (unnamed (raised edges problem)) Configurations)
PassesRaised edges problem Rows =
    ((length (raised edges problem).passive.configs ≤ MAX_CONFIGURATIONS) × (MAX_ROWS < length (max_rows problem.passive (length problem.names))))
    ⊎ (MayRise edges problem × PassesLimit (unnamed (raised edges problem)) Rows)
PassesRaised edges problem passed = MayRise edges problem × PassesLimit (unnamed (raised edges problem)) passed

-- the limit that is passed: of steps, and where there is room for them one of these
abbrev pub RaisedLimitIs : List (ℕ × ℕ) → Bound → ClosureLimit → Type 0
RaisedLimitIs edges chain Steps = MAX_STEPS < length chain.steps + 3
RaisedLimitIs edges chain passed = HasRoom chain × PassesRaised edges (last_problem chain) passed

-- as without a diagram, with the closure of the raised problem
abbrev pub RaisedAnswers : List (ℕ × ℕ) → Bound → Closing → Type 0
RaisedAnswers edges chain (Solvable place) = zero_place (unnamed (last_problem chain)) ≡ Some place
RaisedAnswers edges chain (Found bound) = (zero_place (unnamed (last_problem chain)) ≡ None) × HasRoom chain × IsRaisedClosed edges chain bound
RaisedAnswers edges chain (SolvableClosure sets) =
    (zero_place (unnamed (last_problem chain)) ≡ None) × HasRoom chain × IsRaisedSolvableBy edges (last_problem chain) sets.items

-- ---- one step more
-- the step from a problem to the derived problem of the raised one
abbrev pub step_to_raised : List (ℕ × ℕ) → NamedProblem → BoundStep
step_to_raised edges problem = relaxed_step (image_at (count_from 0 (length problem.names))) problem (raised edges problem)

-- the chain, its maps by rows, with that step from its last problem
abbrev pub raised_chain : List (ℕ × ℕ) → Bound → Bound
raised_chain edges chain = chain_with Lower chain.first ((by_rows chain).steps ++ step_to_raised edges (last_problem chain) ∷ [])
