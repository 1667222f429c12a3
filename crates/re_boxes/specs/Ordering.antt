-- The order of rows.
use Rattle.std.specs.Prelude.{ℕ, Bool, List}
use Rattle.std.specs.Ordering.{is_lt}
use Rattle.re_labels.specs.Rows.{row_cmp}

-- the row comes before the other one
abbrev pub is_row_before : List (List ℕ) → List (List ℕ) → Bool
is_row_before row other = is_lt (row_cmp row other)
