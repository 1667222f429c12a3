-- A chain in whose last problem one label has become another.
use Rattle.std.specs.Prelude.{ℕ, ◌==◌, not, List, [], ◌∷◌, length, map, if◌then◌else◌, Option, None, Some}
use Rattle.re_problem.specs.ItemSteps.{is_nil}
use Rattle.re_labels.specs.Lists.{count_from}
use Rattle.re_labels.specs.Sets.{without_label}
use Rattle.re_labels.specs.Configs.{image_at}
use Rattle.re_problem.specs.NamedProblems.{NamedProblem}
use Rattle.re_changes.specs.Renumbering.{number_among, renumbered}
use Rattle.re_cert.specs.Bounds.{Bound, BoundStep, is_label, is_lower, last_problem}
use Rattle.re_chains.specs.Chains.{chain_with}
use Rattle.re_step.specs.declared.derivation.StepLimit.{StepLimit}
use Rattle.re_shaping.specs.Chains.{step_along, with_last}
use Rattle.re_shaping.specs.Relaxing.{relaxed_limit, relaxed_step}
use Rattle.re_shaping.specs.declared.refusal.Refusal.{Refusal}
use Rattle.re_shaping.specs.declared.refusal.Refusal.TheVariants.{NotALabel, NotLower, Same}

-- the labels of a problem but x
abbrev pub others : ℕ → NamedProblem → List ℕ
others x named = without_label (count_from 0 (length named.names)) x

-- x becomes y, each other label itself
abbrev pub merged_label : ℕ → ℕ → ℕ → ℕ
merged_label x y label = if label == x then y else label

-- the new number of each label, where x has become y and the other labels are numbered anew in their order
abbrev pub merge_numbers : ℕ → ℕ → NamedProblem → List ℕ
merge_numbers x y named = map (λ label. number_among (others x named) (merged_label x y label)) (count_from 0 (length named.names))

-- the problem with y in place of each x: the other labels keep their names
abbrev pub merged_problem : ℕ → ℕ → NamedProblem → NamedProblem
merged_problem x y named = renumbered (others x named) (merge_numbers x y named) named

-- the step to that problem, its map sent along
abbrev pub merged_step : ℕ → ℕ → BoundStep → BoundStep
merged_step x y s = step_along (image_at (merge_numbers x y s.next)) (merged_problem x y s.next) s

-- the step from a problem to the derived problem of that one
abbrev pub first_merged : ℕ → ℕ → NamedProblem → BoundStep
first_merged x y problem = relaxed_step (image_at (merge_numbers x y problem)) problem (merged_problem x y problem)

-- the chain in whose last problem x has become y; without a step the chain with one step, to the derived problem of the first one, in which x has become y
abbrev pub merged : ℕ → ℕ → Bound → Bound
merged x y bound = if is_nil bound.steps then chain_with bound.kind bound.first (first_merged x y bound.first ∷ []) else with_last (merged_step x y) bound

-- why x can't become y: the chain isn't lower, x or y is no label of its last problem, or they are the same
abbrev pub merge_refusal : ℕ → ℕ → Bound → Option Refusal
merge_refusal x y bound =
    if not (is_lower bound.kind) then Some NotLower
    else if not (is_label (last_problem bound) x) then Some (NotALabel x)
    else if not (is_label (last_problem bound) y) then Some (NotALabel y)
    else if x == y then Some Same
    else None

-- the limit that the step passes first which a chain without one gets, if any
abbrev pub merge_limit : ℕ → ℕ → Bound → Option StepLimit
merge_limit x y bound = if is_nil bound.steps then relaxed_limit bound.first (merged_problem x y bound.first) else None
