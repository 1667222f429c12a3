-- The word `input`: which words name an input problem, and what it answers.
use Rattle.std.specs.Prelude.{◌≡◌, ℕ, true, List, [], ◌∷◌, codes, find, if◌then◌else◌, Option, None, Some}
use Rattle.std.specs.Str.{bytes_eq}
use Rattle.re_frame.specs.Outcomes.{Outcome, done}
use Rattle.re_problem.specs.Numerals.{number_of}
use Rattle.re_problem.specs.CanonicalTexts.{canonical}
use Rattle.re_inputs.specs.NamedInputs.{fits, input_of}
use Rattle.re_inputs.specs.declared.kinds.InputKind.{InputKind}
use Rattle.re_inputs.specs.declared.kinds.InputKind.TheVariants.{Both, Colouring, Edges, Nothing, Orientation, Sides}
use Rattle.re_inputs.specs.declared.input_words.InputWord.{InputWord}

-- the word of a kind
abbrev pub kind_word : InputKind → List ℕ
kind_word Colouring = codes "colouring"
kind_word Edges = codes "edges"
kind_word Sides = codes "sides"
kind_word Orientation = codes "orientation"
kind_word Both = codes "both"
kind_word Nothing = codes "nothing"

abbrev pub kinds : List InputKind
kinds = Colouring ∷ Edges ∷ Sides ∷ Orientation ∷ Both ∷ Nothing ∷ []

-- the kind that a word names
abbrev pub kind_named : List ℕ → Option InputKind
kind_named word = find (λ kind. bytes_eq (kind_word kind) word) kinds

-- the kind and the numbers, where there is such an input problem
abbrev pub input_with : Option InputKind → Option ℕ → Option ℕ → Option ℕ → Option InputWord
input_with (Some kind) (Some active) (Some passive) (Some number) =
    if fits kind active passive number then Some (record { kind = kind; active = active; passive = passive; number = number }) else None
input_with kind active passive number = None

-- behind `input` stand a kind, the two degrees and a number; where no number stands, it is 0
unfoldable pub input_word_of : List (List ℕ) → Option InputWord
input_word_of (word ∷ kind ∷ active ∷ passive ∷ []) =
    if bytes_eq (codes "input") word then input_with (kind_named kind) (number_of active) (number_of passive) (Some 0) else None
input_word_of (word ∷ kind ∷ active ∷ passive ∷ number ∷ []) =
    if bytes_eq (codes "input") word then input_with (kind_named kind) (number_of active) (number_of passive) (number_of number) else None
input_word_of words = None

-- there is the input problem of this kind with these numbers
abbrev pub IsInputWord : InputWord → Type 0
IsInputWord word = fits word.kind word.active word.passive word.number ≡ true

-- the line of help
unfoldable pub input_help : List ℕ
input_help =
    codes "input NAME A P N: reads nothing, gives an input problem: a colouring or edges with N colours, or without N edges, sides, orientation, both or nothing\n"

-- the problem, in its canonical text
abbrev pub input_outcome : InputWord → Outcome
input_outcome word = done (canonical (input_of word.kind word.active word.passive word.number))
