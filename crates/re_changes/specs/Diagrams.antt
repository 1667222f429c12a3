-- The strength diagram of a constraint.
use Rattle.std.specs.Prelude.{ℕ, Bool, List, length, filter, flat_map, map, slice_index}
use Rattle.re_labels.specs.Lists.{count_from}
use Rattle.re_labels.specs.Constraints.{Constraint}
use Rattle.re_labels.specs.Strength.{is_at_least_as_strong}
use Rattle.re_changes.specs.Classes.{class_of, is_next, least_labels}

-- the edges from the class at place x to those next above it, where a list has the least labels of the classes
abbrev pub edges_from : (ℕ → ℕ → Bool) → ℕ → List ℕ → ℕ → List (ℕ × ℕ)
edges_from strong n least x = map (λ y. (x, y)) (filter (λ y. is_next strong n (slice_index least y) (slice_index least x)) (count_from 0 (length least)))

-- the classes by a test of strength, in the order of their least labels
abbrev pub classes_by : (ℕ → ℕ → Bool) → ℕ → List (List ℕ)
classes_by strong n = map (class_of strong n) (least_labels strong n)

-- the edges between classes by a test of strength, as pairs of places of classes, the weaker first, in order
abbrev pub edges_by : (ℕ → ℕ → Bool) → ℕ → List (ℕ × ℕ)
edges_by strong n = flat_map (edges_from strong n (least_labels strong n)) (count_from 0 (length (least_labels strong n)))

-- the classes of the labels below n that are equally strong in the constraint
abbrev pub classes_of : Constraint → ℕ → List (List ℕ)
classes_of constraint n = classes_by (is_at_least_as_strong constraint) n

-- an edge from each class to each stronger one with none strictly between
abbrev pub edges_of : Constraint → ℕ → List (ℕ × ℕ)
edges_of constraint n = edges_by (is_at_least_as_strong constraint) n

-- classes, and edges between their places
pub record Diagram : Type 0 where
  pub classes : List (List ℕ)
  pub edges : List (ℕ × ℕ)

-- the diagram of the labels below n in the constraint
abbrev pub diagram_of : Constraint → ℕ → Diagram
diagram_of constraint n = record { classes = classes_of constraint n; edges = edges_of constraint n }
