-- The words `flexible` and `greedy`.
use Rattle.std.specs.Prelude.{ℕ, ◌≤◌, List, [], ◌∷◌, codes, if◌then◌else◌, Option, Some, None}
use Rattle.std.specs.Option.{option_map}
use Rattle.std.specs.Str.{bytes_eq}
use Rattle.re_forest_words.specs.declared.words.ForestWord.{ForestWord}
use Rattle.re_forest_words.specs.declared.words.ForestWord.TheVariants.{Flexible, Greedy}

-- 0, 1 or 2
abbrev pub steps_of : List ℕ → Option ℕ
steps_of word = if bytes_eq (codes "0") word then Some 0 else if bytes_eq (codes "1") word then Some 1 else if bytes_eq (codes "2") word then Some 2 else None

-- the word that the words name
unfoldable pub forest_word_of : List (List ℕ) → Option ForestWord
forest_word_of [] = None
forest_word_of (word ∷ []) = if bytes_eq (codes "flexible") word then Some Flexible else if bytes_eq (codes "greedy") word then Some (Greedy 2) else None
forest_word_of (word ∷ steps ∷ []) = if bytes_eq (codes "greedy") word then option_map Greedy (steps_of steps) else None
forest_word_of (word ∷ steps ∷ other ∷ words) = None

-- at most two derived problems
abbrev pub IsForestWord : ForestWord → Type 0
IsForestWord Flexible = Unit {0}
IsForestWord (Greedy steps) = steps ≤ 2

-- the lines of help
unfoldable pub forest_help : List ℕ
forest_help = codes "flexible: reads a chain, gives a flexible set of labels of its last problem, or how many levels of labels it has\ngreedy, greedy K: reads a chain, gives what shows that its last problem, or one at most 2 or K steps behind it, can be labelled one node after another\n"
