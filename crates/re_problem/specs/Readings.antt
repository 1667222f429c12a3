-- What the readers of lines give.
use Rattle.std.specs.Prelude.{◌≡◌, ℕ, List, slice_range, Option, None, Some}
use Rattle.re_problem.specs.Items.{ItemText, item_of}
use Rattle.re_problem.specs.ItemSteps.{StandsOn}
use Rattle.re_problem.specs.declared.items.Item.{Item}
use Rattle.re_problem.specs.Pairs.{pair_on}

-- the item on the line has this text
pub record ReadsItem (line : List ℕ) (item : Item) (text : ItemText) : Type 0 where
  pub stands : StandsOn item line
  pub text_is : item_of (slice_range line item.from item.to) ≡ Some text
  pub group : item.group ≡ text.group

-- the two items of the line, or nothing where it isn't of two items without power
abbrev pub PairAt : List ℕ → Option (Item × Item) → Type 0
PairAt line None = pair_on line ≡ None
PairAt line (Some items) = (left : ItemText) × (right : ItemText) × (pair_on line ≡ Some (record { left = left; right = right })) × ReadsItem line items.0 left × ReadsItem line items.1 right
