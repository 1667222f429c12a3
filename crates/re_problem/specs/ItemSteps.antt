-- One item after another along a line.
use Rattle.std.specs.Prelude.{◌≡◌, ℕ, ◌+◌, ◌≤◌, Bool, true, false, List, [], ◌∷◌, drop, length, Option, None, Some}
use Rattle.re_problem.specs.Bytes.{behind_blanks}
use Rattle.re_problem.specs.Items.{ItemText, item_of, pieces}
use Rattle.re_problem.specs.declared.items.Item.{Item}
use Rattle.re_problem.specs.declared.items.ItemStep.{ItemStep}
use Rattle.re_problem.specs.declared.items.ItemStep.TheVariants as step

abbrev pub first_of : List (List ℕ) → List ℕ
first_of [] = []
first_of (piece ∷ pieces) = piece

-- the word that begins at the front
abbrev pub first_word : List ℕ → List ℕ
first_word text = first_of (pieces false text)

abbrev pub is_nil : {X : Type 0} → List X → Bool
is_nil [] = true
is_nil (x ∷ xs) = false

-- the item with its places, as a program holds it
abbrev pub item_at : ℕ → ℕ → Option ItemText → ItemStep
item_at from to None = step.Bad
item_at from to (Some item) = step.Item (record { from = from; to = to; group = item.group; empty = is_nil item.names; power = item.power })

-- what stands at a place from which blanks are passed: an item, no further word, or a word that is no item
abbrev pub step_of_word : ℕ → List ℕ → ItemStep
step_of_word from [] = step.End
step_of_word from (b ∷ word) = item_at from (from + length (b ∷ word)) (item_of (b ∷ word))

abbrev pub step_at : List ℕ → ℕ → ItemStep
step_at line at = step_of_word (behind_blanks line at) (first_word (drop (behind_blanks line at) line))

-- the item stands on the line
abbrev pub StandsOn : Item → List ℕ → Type 0
StandsOn item line = (at : ℕ) × (at ≤ length line) × (step_at line at ≡ step.Item item)
