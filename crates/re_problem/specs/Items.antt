-- Items: labels and groups of labels, with or without a power.
use Rattle.std.specs.Prelude.{ℕ, ◌-◌, ◌==◌, nat_le, Bool, true, false, not, ◌&&◌, List, [], ◌∷◌, ◌++◌, length, filter, take, slice_index_or, if◌then◌else◌, Option, None, Some}
use Rattle.std.specs.Option.{option_and_then}
use Rattle.std.specs.Char.{is_ascii_alphanumeric}
use Rattle.std.specs.List.{onto_first, slice_split}
use Rattle.re_labels.specs.Names.{is_name}
use Rattle.re_problem.specs.Bytes.{is_blank}
use Rattle.re_problem.specs.Numerals.{number_of}

-- ---- the words of a line
-- whether what follows the byte stands inside brackets
abbrev pub is_inside : Bool → ℕ → Bool
is_inside inside b = if b == 91 then true else if b == 93 then false else inside

-- the line cut at the blanks that stand outside brackets
abbrev pub pieces : Bool → List ℕ → List (List ℕ)
pieces inside [] = [] ∷ []
pieces inside (b ∷ line) = if is_blank b && not inside then [] ∷ pieces false line else onto_first b (pieces (is_inside inside b) line)

-- the words of a line: blanks separate them, but not inside brackets
abbrev pub words : List ℕ → List (List ℕ)
words line = filter (λ word. nat_le 1 (length word)) (pieces false line)

-- ---- labels
abbrev pub with_name : List ℕ → Option (List (List ℕ)) → Option (List (List ℕ))
with_name name None = None
with_name name (Some names) = Some (name ∷ names)

-- the names of labels written one after another, with optional blanks between them: a letter or digit is a label, and so is a name in
-- parentheses. Behind an open parenthesis stands the name so far
abbrev pub labels_from : Option (List ℕ) → List ℕ → Option (List (List ℕ))
labels_from None [] = Some []
labels_from (Some name) [] = None
labels_from None (b ∷ text) =
    if is_blank b then labels_from None text
    else if b == 40 then labels_from (Some []) text
    else if is_ascii_alphanumeric b then with_name (b ∷ []) (labels_from None text)
    else None
labels_from (Some name) (b ∷ text) =
    if b == 41 then if is_name name then with_name name (labels_from None text) else None
    else labels_from (Some (name ++ b ∷ [])) text

-- the names of the labels that the text writes
abbrev pub labels_of : List ℕ → Option (List (List ℕ))
labels_of text = labels_from None text

-- ---- items
-- the names of an item's labels, whether it is a group, and the power that is written
pub record ItemText : Type 0 where
  pub names : List (List ℕ)
  pub group : Bool
  pub power : Option ℕ

-- the item of one label, where the text writes just one
abbrev pub label_item : Option ℕ → Option (List (List ℕ)) → Option ItemText
label_item power (Some (name ∷ [])) = Some (record { names = name ∷ []; group = false; power = power })
label_item power names = None

abbrev pub group_item : Option ℕ → Option (List (List ℕ)) → Option ItemText
group_item power None = None
group_item power (Some names) = Some (record { names = names; group = true; power = power })

-- a group of labels, whose text begins behind the open bracket
abbrev pub group_with : Option ℕ → List ℕ → Option ItemText
group_with power text = if slice_index_or text (length text - 1) 0 == 93 then group_item power (labels_of (take (length text - 1) text)) else None

-- the item without its power: a group is labels between brackets, and may be empty; else it is one label
abbrev pub item_with : Option ℕ → List ℕ → Option ItemText
item_with power [] = None
item_with power (b ∷ text) = if b == 91 then group_with power text else label_item power (labels_of (b ∷ text))

abbrev pub in_range : ℕ → Option ℕ
in_range n = if nat_le 1 n && nat_le n 99 then Some n else None

-- a power, or the degree of an empty constraint: a number from 1 to 99
abbrev pub power_of : List ℕ → Option ℕ
power_of text = option_and_then in_range (number_of text)

abbrev pub item_of_parts : List (List ℕ) → Option ItemText
item_of_parts (base ∷ []) = item_with None base
item_of_parts (base ∷ power ∷ []) = option_and_then (λ n. item_with (Some n) base) (power_of power)
item_of_parts parts = None

-- the item that a word writes: what stands before `^`, with the power that stands behind it
abbrev pub item_of : List ℕ → Option ItemText
item_of word = item_of_parts (slice_split (λ b. b == 94) word)

abbrev pub with_item : Option ItemText → Option (List ItemText) → Option (List ItemText)
with_item (Some item) (Some items) = Some (item ∷ items)
with_item item items = None

-- the items of all words
abbrev pub items_of_words : List (List ℕ) → Option (List ItemText)
items_of_words [] = Some []
items_of_words (word ∷ words) = with_item (item_of word) (items_of_words words)

-- the items of a line
abbrev pub items_of : List ℕ → Option (List ItemText)
items_of line = items_of_words (words line)

-- ---- empty constraints
abbrev pub degree_word : List (List ℕ) → Option ℕ
degree_word ((b ∷ digits) ∷ []) = if b == 37 then power_of digits else None
degree_word words = None

-- the degree d of the line `%d`, which writes the empty constraint of this degree
abbrev pub empty_degree : List ℕ → Option ℕ
empty_degree line = degree_word (words line)
