-- Whose nodes are labelled in turn, and with what.
use Rattle.std.specs.Prelude.{ℕ, List}
use Rattle.re_labels.specs.declared.sides.Side.{Side}

-- a side, and multisets of labels
pub record Turns : Type 0 where
  pub side : Side
  pub multisets : List (List ℕ)
