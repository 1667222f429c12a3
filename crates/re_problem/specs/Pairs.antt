-- Lines of two items, as the entries of maps are.
use Rattle.std.specs.Prelude.{ℕ, ◌&&◌, List, [], ◌∷◌, if◌then◌else◌, Option, None, Some, is_none}
use Rattle.std.specs.Option.{option_and_then}
use Rattle.re_problem.specs.Items.{ItemText, items_of}
use Rattle.re_problem.specs.Labels.{labels_held}
use Rattle.re_labels.specs.Sets.{first_of}

-- two items
pub record ItemPair : Type 0 where
  pub left : ItemText
  pub right : ItemText

abbrev pub pair_in : Option (List ItemText) → Option ItemPair
pair_in (Some (left ∷ right ∷ [])) = if is_none left.power && is_none right.power then Some (record { left = left; right = right }) else None
pair_in items = None

-- the two items of a line of two items without power
abbrev pub pair_on : List ℕ → Option ItemPair
pair_on line = pair_in (items_of line)

-- the label of an item that is no group, where it is known
abbrev pub label_held : List (List ℕ) → ItemText → Option ℕ
label_held names item = option_and_then first_of (labels_held names item.names)
