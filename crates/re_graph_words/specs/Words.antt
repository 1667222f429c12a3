-- The words `solve` and `cover`.
use Rattle.std.specs.Prelude.{ℕ, ◌≤◌, nat_le, ◌&&◌, List, [], ◌∷◌, ◌++◌, codes, if◌then◌else◌, Option, None, Some}
use Rattle.std.specs.Str.{bytes_eq}
use Rattle.re_problem.specs.Numerals.{number_of}
use Rattle.re_graph_words.specs.declared.words.TheConstants.{MAX_COVER}
use Rattle.re_graph_words.specs.declared.words.GraphWord.{GraphWord}
use Rattle.re_graph_words.specs.declared.words.GraphWord.TheVariants.{Cover, Solve}

-- `cover` with this number
abbrev pub cover_with : Option ℕ → Option GraphWord
cover_with None = None
cover_with (Some nodes) = if nat_le 1 nodes && nat_le nodes MAX_COVER then Some (Cover nodes) else None

-- the word that these words are
unfoldable pub graph_word_of : List (List ℕ) → Option GraphWord
graph_word_of (word ∷ []) = if bytes_eq (codes "solve") word then Some Solve else None
graph_word_of (word ∷ nodes ∷ []) = if bytes_eq (codes "cover") word then cover_with (number_of nodes) else None
graph_word_of words = None

-- the number of `cover` is one that it can have
abbrev pub IsGraphWord : GraphWord → Type 0
IsGraphWord Solve = Unit {0}
IsGraphWord (Cover nodes) = (1 ≤ nodes) × (nodes ≤ 64)

-- the lines of help
unfoldable pub graph_help : List ℕ
graph_help =
    codes "solve: reads a problem, or one with a line == given and an input problem, a line == graph and the lines of a graph, gives a solution on it, or that there is none\n"
    ++ codes "cover M: reads a problem, or one with a line == given and an input problem, gives a graph of at most M active nodes, M from 1 to 64, without a solution\n"
