-- The words behind which an input problem stands by its name: `WORDS.. given 4 colours`.
use Rattle.std.specs.Prelude.{◌==◌, ◌&&◌, ℕ, Bool, List, [], ◌∷◌, codes, if◌then◌else◌, Option, None, Some}
use Rattle.std.specs.List.{after_first, before_first}
use Rattle.std.specs.Str.{bytes_eq}
use Rattle.re_inputs.specs.declared.kinds.InputKind.{InputKind}
use Rattle.re_inputs.specs.declared.kinds.InputKind.TheVariants.{Both, Colouring, Edges, Orientation, Sides}
use Rattle.re_problem.specs.Numerals.{number_of}
use Rattle.re_asking.specs.declared.beside_words.NamedInput.{NamedInput}

abbrev pub is_given : List ℕ → Bool
is_given word = bytes_eq (codes "given") word

-- the words in front of the first `given` behind the first word
abbrev pub own_words : List (List ℕ) → List (List ℕ)
own_words [] = []
own_words (word ∷ words) = word ∷ before_first is_given words

-- those behind it
abbrev pub words_behind : List (List ℕ) → List (List ℕ)
words_behind [] = []
words_behind (word ∷ words) = after_first is_given words

-- an input problem that has no number
abbrev pub unnumbered : InputKind → NamedInput
unnumbered kind = record { kind = kind; number = 0 }

-- one with so many colours, from 1 on
abbrev pub with_colours : InputKind → Option ℕ → Option NamedInput
with_colours kind None = None
with_colours kind (Some number) = if number == 0 then None else Some (record { kind = kind; number = number })

-- the input problem that words name: `N colours`, `N edge colours`, `sides`, `orientation` or `both`
unfoldable pub input_by : List (List ℕ) → Option NamedInput
input_by (name ∷ []) =
    if bytes_eq (codes "sides") name then Some (unnumbered Sides)
    else if bytes_eq (codes "orientation") name then Some (unnumbered Orientation)
    else if bytes_eq (codes "both") name then Some (unnumbered Both) else None
input_by (number ∷ colours ∷ []) = if bytes_eq (codes "colours") colours then with_colours Colouring (number_of number) else None
input_by (number ∷ edge ∷ colours ∷ []) =
    if bytes_eq (codes "edge") edge && bytes_eq (codes "colours") colours then with_colours Edges (number_of number) else None
input_by words = None

-- the input problem that stands behind the words
abbrev pub named_input : List (List ℕ) → Option NamedInput
named_input words = input_by (words_behind words)
