-- The words `longest`, `shortest` and `cycle`.
use Rattle.std.specs.Prelude.{◌≤◌, ℕ, nat_le, ◌&&◌, List, [], ◌∷◌, codes, if◌then◌else◌, Option, Some, None}
use Rattle.std.specs.Str.{bytes_eq}
use Rattle.re_cert.specs.declared.certificate.TheConstants.{MAX_STEPS}
use Rattle.re_problem.specs.Numerals.{number_of}
use Rattle.re_labels.specs.declared.TheConstants.{MAX_LABELS}
use Rattle.re_search_words.specs.declared.words.SearchWord.{SearchWord}
use Rattle.re_search_words.specs.declared.words.SearchWord.TheVariants.{Cycle, Longest, Shortest}
use Rattle.re_search_words.specs.declared.words.TheConstants.{MAX_MERGES, MAX_NODES}

-- at most so many more steps, to problems of at most so many labels, from 2 on
abbrev pub longest_with : Option ℕ → Option ℕ → Option SearchWord
longest_with (Some steps) (Some labels) = if nat_le steps MAX_STEPS && nat_le 2 labels && nat_le labels MAX_LABELS then Some (Longest steps labels) else None
longest_with steps labels = None

abbrev pub shortest_with : Option ℕ → Option ℕ → Option SearchWord
shortest_with (Some steps) (Some labels) = if nat_le steps MAX_STEPS && nat_le 2 labels && nat_le labels MAX_LABELS then Some (Shortest steps labels) else None
shortest_with steps labels = None

-- at most so many more steps, with at most so many merges in each, over at most so many problems, from 1 on
abbrev pub cycle_with : Option ℕ → Option ℕ → Option ℕ → Option SearchWord
cycle_with (Some steps) (Some merges) (Some nodes) =
    if nat_le steps MAX_STEPS && nat_le merges MAX_MERGES && nat_le 1 nodes && nat_le nodes MAX_NODES then Some (Cycle steps merges nodes) else None
cycle_with steps merges nodes = None

-- the search for a bound that the word names
abbrev pub bound_word : List ℕ → List ℕ → List ℕ → Option SearchWord
bound_word word steps labels =
    if bytes_eq (codes "longest") word then longest_with (number_of steps) (number_of labels)
    else if bytes_eq (codes "shortest") word then shortest_with (number_of steps) (number_of labels)
    else None

-- the word with its numbers
unfoldable pub search_word_of : List (List ℕ) → Option SearchWord
search_word_of (word ∷ steps ∷ labels ∷ []) = bound_word word steps labels
search_word_of (word ∷ steps ∷ merges ∷ nodes ∷ []) = if bytes_eq (codes "cycle") word then cycle_with (number_of steps) (number_of merges) (number_of nodes) else None
search_word_of words = None

-- numbers that words can give
abbrev pub IsSearchWord : SearchWord → Type 0
IsSearchWord (Longest steps labels) = (steps ≤ MAX_STEPS) × (labels ≤ MAX_LABELS)
IsSearchWord (Shortest steps labels) = (steps ≤ MAX_STEPS) × (labels ≤ MAX_LABELS)
IsSearchWord (Cycle steps merges nodes) = (steps ≤ MAX_STEPS) × (nodes ≤ MAX_NODES)

-- the lines of help
unfoldable pub search_help : List ℕ
search_help = codes "longest K L: reads a chain, or one with a line == given and an input problem, gives the longest lower bound that is found with at most K more steps, each to at most L labels\nshortest K L: reads a chain of kind upper or a problem, or one with a line == given and an input problem, gives the shortest upper bound that is found with at most K more steps, each to at most L labels\ncycle K M N: reads a chain, or one with a line == given and an input problem, gives a fixed point with at most K more steps and at most M merges in each, of at most N problems looked at\n"
