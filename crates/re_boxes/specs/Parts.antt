-- The part of a box whose rows lack a label of a choice.
use Rattle.std.specs.Prelude.{ℕ, ◌<◌, ◌≤◌, not, List, filter, length, slice_index, slice_set}
use Rattle.std.specs.List.{AllByRecursion}
use Rattle.re_labels.specs.Sets.{IsIn, has}
use Rattle.re_labels.specs.Rows.{IsUnder, set_at}
use Rattle.re_boxes.specs.Boxes.{IsUp}
use Rattle.re_labels.specs.Constraints.{Constraint}
use Rattle.re_labels.specs.GoodRows.{IsDominated, IsGood}

-- the sets without, at the place, the labels that go up to this one
abbrev pub left_out : (ℕ → List ℕ) → ℕ → ℕ → List (List ℕ) → List (List ℕ)
left_out ups x place sets = slice_set sets place (filter (λ z. not (has (ups z) x)) (set_at sets place))

-- at this place or behind it the row lacks the label of the choice there
pub record IsLacking (place : ℕ) (choice : List ℕ) (row : List (List ℕ)) : Type 0 where
  pub at : ℕ
  pub behind : place ≤ at
  pub within : at < length choice
  pub lacked : IsIn (slice_index choice at) (set_at row at) → ⊥

-- each good row of up sets that lies in the box, in which these labels lie, and that lacks a label of the choice from the place on,
-- is dominated by a row of the list
abbrev pub IsPartCovered : Constraint → (ℕ → List ℕ) → List (List (List ℕ)) → List (List ℕ) → List (List ℕ) → List ℕ → ℕ → Type 0
IsPartCovered constraint ups rows labels box choice place = (row : List (List ℕ)) → IsGood constraint row → AllByRecursion (IsUp ups) row
    → IsUnder labels row → IsUnder row box → IsLacking place choice row → IsDominated rows row
