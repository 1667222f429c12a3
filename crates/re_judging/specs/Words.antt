-- The word `judge`.
use Rattle.std.specs.Prelude.{ℕ, Bool, false, List, [], ◌∷◌, codes}
use Rattle.std.specs.Str.{bytes_eq}

-- whether the words are this word
abbrev pub names_judge : List (List ℕ) → Bool
names_judge (word ∷ []) = bytes_eq (codes "judge") word
names_judge words = false

-- the line of help
unfoldable pub judge_help : List ℕ
judge_help = codes "judge: reads texts of evidence of one problem with lines ===== between them, judges each, and gives what follows from all of them\n"
