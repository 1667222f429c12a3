-- The word `settle`.
use Rattle.std.specs.Prelude.{ℕ, ◌≤◌, nat_le, ◌&&◌, List, [], ◌∷◌, codes, if◌then◌else◌, Option, None, Some}
use Rattle.std.specs.Str.{bytes_eq}
use Rattle.re_problem.specs.Numerals.{number_of}
use Rattle.re_settle.specs.declared.words.SettleWord.{SettleWord}
use Rattle.re_settle.specs.declared.words.TheConstants.{MAX_TIMES}

-- `settle` with this number
abbrev pub settle_with : Option ℕ → Option SettleWord
settle_with None = None
settle_with (Some times) = if nat_le 1 times && nat_le times MAX_TIMES then Some (record { times = times }) else None

-- the word that these words are
unfoldable pub settle_word_of : List (List ℕ) → Option SettleWord
settle_word_of (word ∷ []) = if bytes_eq (codes "settle") word then Some (record { times = 1 }) else None
settle_word_of (word ∷ times ∷ []) = if bytes_eq (codes "settle") word then settle_with (number_of times) else None
settle_word_of words = None

-- the number is one that it can have
abbrev pub IsSettleWord : SettleWord → Type 0
IsSettleWord word = (1 ≤ word.times) × (word.times ≤ 64)

-- the line of help
unfoldable pub settle_help : List ℕ
settle_help = codes "settle, settle N: reads a problem, or one with a line == given and an input problem, gives how many rounds it takes, as far as that is found, and the words that show it\n"
