-- Chains with another last step, and maps whose labels are sent along.
use Rattle.std.specs.Prelude.{ℕ, ◌<◌, List, [], ◌∷◌, map}
use Rattle.std.specs.List.{AllByRecursion}
use Rattle.re_problem.specs.NamedProblems.{NamedProblem}
use Rattle.re_problem.specs.Steps.{LowerMap, SetEntry}
use Rattle.re_problem.specs.Steps.LowerMap.{by_row, by_set}
use Rattle.re_cert.specs.Bounds.{Bound, BoundStep}
use Rattle.re_chains.specs.Chains.{chain_with}

-- ---- the last step
-- the steps with another one in place of the last; the others stay
abbrev pub last_changed : (BoundStep → BoundStep) → List BoundStep → List BoundStep
last_changed change [] = []
last_changed change (s ∷ []) = change s ∷ []
last_changed change (s ∷ t ∷ steps) = s ∷ last_changed change (t ∷ steps)

-- the chain with another step in place of the last
abbrev pub with_last : (BoundStep → BoundStep) → Bound → Bound
with_last change bound = chain_with bound.kind bound.first (last_changed change bound.steps)

-- ---- labels of a map sent along
-- the entry of the same set for the label to which its label goes
abbrev pub entry_sent : (ℕ → ℕ) → SetEntry → SetEntry
entry_sent image entry = record { set = entry.set; label = image entry.label }

-- the map to the labels to which its labels go: those of its entries, or those of its images
abbrev pub sent_along : (ℕ → ℕ) → LowerMap → LowerMap
sent_along image (by_set entries) = by_set (map (entry_sent image) entries)
sent_along image (by_row images) = by_row (map (map image) images)

-- the step to another problem, its map sent along
abbrev pub step_along : (ℕ → ℕ) → NamedProblem → BoundStep → BoundStep
step_along image next s = record { lower = s.lower; next = next; rows = s.rows; map = sent_along image s.map }

-- the labels of the map are below n
abbrev pub HasLabelsBelow : ℕ → LowerMap → Type 0
HasLabelsBelow n (by_set entries) = AllByRecursion (λ (entry : SetEntry). entry.label < n) entries
HasLabelsBelow n (by_row images) = AllByRecursion (AllByRecursion (λ label. label < n)) images
