-- What the clauses mean.
use Rattle.std.specs.Prelude.{◌≡◌, ℕ, ◌↔◌, List, map, Contains}
use Rattle.re_labels.specs.Rows.{IsChoice}
use Rattle.re_problem.specs.Steps.{SetEntry, entry_sets}
use Rattle.re_labels.specs.Constraints.{Constraint, Has, IsConstraint}
use Rattle.re_labels.specs.GoodRows.{max_rows, max_sets}
use Rattle.re_check.specs.LabelsOver.{labels_over}
use Rattle.re_check.specs.RowEntries.{image_entries}
use Rattle.re_check.specs.StepClauses.{HasRowSets, KeepsAllowed, KeepsAllowedByRow, OccursInRows}

-- the sets that occur in the maximal rows are their sets, in order
abbrev pub RowSetsLaw : Type 0
RowSetsLaw = (constraint : Constraint) (n : ℕ) (entries : List SetEntry) →
    HasRowSets (max_rows constraint n) entries ↔ (entry_sets entries ≡ max_sets constraint n)

-- the images of the allowed multisets are configurations exactly where, for each configuration, each choice is one from the labels
-- of the entries whose sets hold its labels
abbrev pub KeepsAllowedLaw : Type 0
KeepsAllowedLaw = (n : ℕ) (from to : Constraint) (entries : List SetEntry) → IsConstraint n from →
    KeepsAllowed entries from to
    ↔ ((config labels : List ℕ) → Contains from.configs config → IsChoice labels (map (labels_over entries) config) → Has to labels)

-- by rows, each choice of labels that the sets of allowed multisets become is a configuration exactly where, for each configuration, each
-- choice is one from the labels that sets which hold its labels become
abbrev pub KeepsAllowedByRowLaw : Type 0
KeepsAllowedByRowLaw = (n : ℕ) (from to : Constraint) (sets : List (List ℕ)) (rows : List (List (List ℕ))) (images : List (List ℕ)) → IsConstraint n from →
    ((set : List ℕ) → OccursInRows rows set → Contains sets set) →
    KeepsAllowedByRow sets rows images from to
    ↔ ((config labels : List ℕ) → Contains from.configs config → IsChoice labels (map (labels_over (image_entries rows images)) config) → Has to labels)
