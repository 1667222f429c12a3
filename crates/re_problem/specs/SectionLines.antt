-- Section lines: lines that begin with `==`, each a list of words that blanks separate.
use Rattle.std.specs.Prelude.{ℕ, ◌==◌, Bool, false, not, ◌&&◌, List, [], ◌∷◌, filter, if◌then◌else◌, Option, None, Some, codes}
use Rattle.std.specs.List.{slice_split}
use Rattle.std.specs.Str.{bytes_eq}
use Rattle.re_problem.specs.Bytes.{is_blank}
use Rattle.re_problem.specs.ItemSteps.{is_nil}

-- the first two bytes of the line are `==`
abbrev pub is_section : List ℕ → Bool
is_section (b ∷ c ∷ line) = b == 61 && c == 61
is_section line = false

-- the words of a line
abbrev pub words_of : List ℕ → List (List ℕ)
words_of line = filter (λ word. not (is_nil word)) (slice_split is_blank line)

abbrev pub name_in : List (List ℕ) → Option (List ℕ)
name_in (mark ∷ name ∷ []) = if bytes_eq mark (codes "==") then Some name else None
name_in words = None

-- the name in a line of the two words `==` and a name
abbrev pub section_name : List ℕ → Option (List ℕ)
section_name line = name_in (words_of line)
