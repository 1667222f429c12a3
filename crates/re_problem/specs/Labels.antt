-- The labels of an item on a line.
use Rattle.std.specs.Prelude.{Bool, ◌≡◌, ℕ, ◌≤◌, ◌<◌, List, [], Bool, length, map, drop, slice_range, if◌then◌else◌, IsTrue, Option, None, Some}
use Rattle.std.specs.List.{list_all, list_any}
use Rattle.std.specs.Option.{option_and_then}
use Rattle.re_labels.specs.Lists.{place_of, same_list}
use Rattle.re_labels.specs.Names.{is_name}
use Rattle.re_labels.specs.Configs.{support_of}
use Rattle.re_problem.specs.Items.{ItemText, item_of, labels_from, with_name}
use Rattle.re_problem.specs.declared.items.Item.{Item}
use Rattle.re_problem.specs.declared.labels.LabelStep.{LabelStep}
use Rattle.re_problem.specs.declared.labels.LabelStep.TheVariants.{Label, End, Bad}

-- whether each name is among the names
abbrev pub are_held : List (List ℕ) → List (List ℕ) → Bool
are_held names written = list_all (λ name. list_any (same_list name) names) written

-- the set of the labels of these names, where each is among the names
abbrev pub labels_held : List (List ℕ) → List (List ℕ) → Option (List ℕ)
labels_held names written = if are_held names written then Some (support_of (map (place_of names) written)) else None

-- the set of the labels of an item on the line, where each is among the names
abbrev pub item_set : List ℕ → Item → List (List ℕ) → Option (List ℕ)
item_set line item names = option_and_then (λ (text : ItemText). labels_held names text.names) (item_of (slice_range line item.from item.to))

-- what the next label of a text is, from a place on: the labels from there on begin with it
abbrev pub NextLabel : List ℕ → ℕ → LabelStep → Type 0
NextLabel text at (Label from to next) =
    (labels_from None (drop at text) ≡ with_name (slice_range text from to) (labels_from None (drop next text)))
    × (at < next) × (next ≤ length text) × (from ≤ to) × (to ≤ length text) × IsTrue (is_name (slice_range text from to))
NextLabel text at End = labels_from None (drop at text) ≡ Some []
NextLabel text at Bad = labels_from None (drop at text) ≡ None

abbrev pub names_or_none : Option (List (List ℕ)) → List (List ℕ)
names_or_none None = []
names_or_none (Some names) = names

abbrev pub text_names : Option ItemText → List (List ℕ)
text_names None = []
text_names (Some text) = text.names

-- the names that an item on the line writes
abbrev pub item_names : List ℕ → Item → List (List ℕ)
item_names line item = text_names (item_of (slice_range line item.from item.to))
