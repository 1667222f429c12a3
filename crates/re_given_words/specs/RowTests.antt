-- The test of a row.
use Rattle.std.specs.Prelude.{ℕ, Bool, List, find, is_some}
use Rattle.std.specs.List.{list_all}
use Rattle.re_labels.specs.Orders.{multisets}
use Rattle.re_labels.specs.Rows.{choices, placed}
use Rattle.re_labels.specs.Constraints.{Constraint, has_config}

-- whether the sets of the row at these places have an active choice
abbrev pub has_choice : Constraint → List (List ℕ) → List ℕ → Bool
has_choice active row places = is_some (find (has_config active) (choices (placed row places)))

-- whether each multiset of sets of the row has one, where it has so many
abbrev pub has_choices : Constraint → ℕ → List (List ℕ) → Bool
has_choices active ports row = list_all (has_choice active row) (multisets active.degree 0 ports)
