-- The words that lines of help are of, and those that another word is near to.
use Rattle.std.specs.Prelude.{◌==◌, nat_le, ◌||◌, ℕ, Bool, List, [], ◌∷◌, ◌++◌, codes, filter, take}
use Rattle.std.specs.List.{before_first, flat_map, list_all, list_any}
use Rattle.std.specs.Str.{bytes_eq}
use Rattle.re_problem.specs.ProblemTexts.{ended, lines_of}
use Rattle.re_distances.specs.Distances.{distance}

-- a blank, a comma and a colon end the word of a line
abbrev pub ends_word : ℕ → Bool
ends_word byte = byte == 32 || (byte == 44 || byte == 58)

-- the word that a line is of: its first one
abbrev pub line_word : List ℕ → List ℕ
line_word line = before_first ends_word line

-- whether the line is of this word
abbrev pub is_of : List ℕ → List ℕ → Bool
is_of word line = bytes_eq (line_word line) word

-- whether the text has a line of this word
abbrev pub has_line_of : List ℕ → List ℕ → Bool
has_line_of word text = list_any (is_of word) (lines_of text)

-- the lines of this word
abbrev pub own_lines : List ℕ → List ℕ → List ℕ
own_lines word text = ended (filter (is_of word) (lines_of text))

-- whether the word is no nearer to that of another of the lines than to that of this one
abbrev pub is_nearest : List ℕ → List (List ℕ) → List ℕ → Bool
is_nearest word lines line = list_all (λ other. nat_le (distance word (line_word line)) (distance word (line_word other))) lines

abbrev pub asked : List ℕ → List ℕ
asked line = line_word line ++ codes "? "

-- the words of the lines, at most three, that this word is nearest to, each with a question mark and a blank
abbrev pub near_words : List ℕ → List ℕ → List ℕ
near_words word text = flat_map asked (take 3 (filter (is_nearest word (lines_of text)) (lines_of text)))

-- ---- wrong words
-- the text for words that are no command, by the lines of their first word
abbrev pub wrong_by : List ℕ → List ℕ → List ℕ → List ℕ
wrong_by [] word text = codes "words: no word " ++ word ++ codes ": " ++ near_words word text ++ codes "explore help shows all\n"
wrong_by (byte ∷ lines) word text = codes "words: not a command: " ++ byte ∷ lines

-- the text for words that are no command, by their first word and the lines of help: the lines of this word, and where there are none the words that it is
-- nearest to
unfoldable pub wrong_word : List ℕ → List ℕ → List ℕ
wrong_word word text = wrong_by (own_lines word text) word text
