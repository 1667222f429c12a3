-- Which labels are a solution, and where the first ones stand that show that they are none.
use Rattle.std.specs.Prelude.{ℕ, ◌+◌, List, map, not, Option, None, Some}
use Rattle.std.specs.List.{position}
use Rattle.re_cover.specs.Graphs.{IsSolution, PortGraph, label_at}
use Rattle.re_problem.specs.Problems.{Problem}
use Rattle.re_labels.specs.Constraints.{Constraint, has_config}
use Rattle.re_graph.specs.declared.judging.LabelsFault.{LabelsFault}
use Rattle.re_graph.specs.declared.judging.LabelsFault.TheVariants.{Active, Passive}

-- the place of the first active node whose labels are no configuration
abbrev pub first_active : Constraint → List (List ℕ) → Option ℕ
first_active active labels = position (λ own. not (has_config active own)) labels

-- the place of the first passive node with other labels at its ends than a configuration
abbrev pub first_passive : Problem → PortGraph → List (List ℕ) → Option ℕ
first_passive problem graph labels = position (λ ends. not (has_config problem.passive (map (label_at labels) ends))) graph.passive

-- the first node of these, where nodes count from 1
abbrev pub fault_in : Option ℕ → Option ℕ → Option LabelsFault
fault_in (Some place) passive = Some (Active (place + 1))
fault_in None (Some place) = Some (Passive (place + 1))
fault_in None None = None

-- the first active node that shows that the labels are no solution, and else the first passive one
abbrev pub labels_fault : Problem → PortGraph → List (List ℕ) → Option LabelsFault
labels_fault problem graph labels = fault_in (first_active problem.active labels) (first_passive problem graph labels)

-- none exactly where they are one
abbrev pub IsJudged : Problem → PortGraph → List (List ℕ) → Option LabelsFault → Type 0
IsJudged problem graph labels None = IsSolution problem graph labels
IsJudged problem graph labels (Some fault) = IsSolution problem graph labels → ⊥
