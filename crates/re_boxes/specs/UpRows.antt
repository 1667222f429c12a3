-- Good rows that have, with each label, the stronger ones.
use Rattle.std.specs.Prelude.{ℕ, List, Contains}
use Rattle.std.specs.List.{AllByRecursion}
use Rattle.re_boxes.specs.Boxes.{IsUp}
use Rattle.re_labels.specs.Rows.{IsRow}
use Rattle.re_labels.specs.Constraints.{Constraint}
use Rattle.re_labels.specs.GoodRows.{IsGood}

-- a good row of labels below n that has, with each label x of a set, the labels ups x there too; each maximal row is one
pub record IsUpRow (constraint : Constraint) (ups : ℕ → List ℕ) (n : ℕ) (row : List (List ℕ)) : Type 0 where
  pub is_row : IsRow constraint.degree n row
  pub good : IsGood constraint row
  pub up : AllByRecursion (IsUp ups) row

-- so are all rows of the list
abbrev pub AreUpRows : Constraint → (ℕ → List ℕ) → ℕ → List (List (List ℕ)) → Type 0
AreUpRows constraint ups n rows = (row : List (List ℕ)) → Contains rows row → IsUpRow constraint ups n row
