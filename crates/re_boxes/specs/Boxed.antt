-- Rows of a list whose boxes are covered.
use Rattle.std.specs.Prelude.{ℕ, ◌<◌, List, length, map, Contains}
use Rattle.re_labels.specs.Rows.{set_at}
use Rattle.re_boxes.specs.Boxes.{IsCovered, IsNext, box_at, only_at}
use Rattle.re_labels.specs.Constraints.{Constraint}
use Rattle.re_labels.specs.GoodRows.{IsDominated}

-- the box of the row at the place and the label is covered, where it need be
abbrev pub IsBoxCovered : Constraint → (ℕ → List ℕ) → List (List (List ℕ)) → List (List ℕ) → ℕ → ℕ → Type 0
IsBoxCovered constraint ups rows row i x = IsNext ups x (set_at row i) → IsCovered constraint ups rows (only_at i x row) (box_at ups i x row)

-- so is each box of the row at labels below n
abbrev pub AreBoxesCovered : Constraint → (ℕ → List ℕ) → ℕ → List (List (List ℕ)) → List (List ℕ) → Type 0
AreBoxesCovered constraint ups n rows row = (i x : ℕ) → i < length row → x < n → IsBoxCovered constraint ups rows row i x

-- each configuration, with what its labels go up to, is dominated by a row of the list
abbrev pub AreConfigsDominated : Constraint → (ℕ → List ℕ) → List (List (List ℕ)) → Type 0
AreConfigsDominated constraint ups rows = (config : List ℕ) → Contains constraint.configs config → IsDominated rows (map ups config)
