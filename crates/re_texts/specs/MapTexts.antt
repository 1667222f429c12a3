-- The inputs of maps between problems, line by line: what a line brings behind the lines before it.
use Rattle.std.specs.Prelude.{ℕ, ◌+◌, ◌==◌, Bool, true, false, List, [], ◌∷◌, ◌++◌, length, if◌then◌else◌, Option, None, Some, Result, Ok, Err}
use Rattle.re_problem.specs.Bytes.{bad_byte, is_empty_line}
use Rattle.re_problem.specs.NamedProblems.{NamedProblem}
use Rattle.re_problem.specs.ProblemTexts.{byte_fault, end_fault, fault_at, fault_or, lines_of, problem_of}
use Rattle.re_problem.specs.declared.fault.InputFault.{InputFault}
use Rattle.re_problem.specs.declared.fault.InputFault.TheVariants.{BadItem, BadSection, BadEntry, EarlyEnd}
use Rattle.re_texts.specs.Entries.{has_group, image_on, is_next, source, target}
use Rattle.re_problem.specs.Pairs.{ItemPair, label_held, pair_on}
use Rattle.re_texts.specs.SectionLines.{section_of}
use Rattle.re_problem.specs.SectionLines.{is_section}
use Rattle.re_texts.specs.declared.entries.MapKind.{MapKind}
use Rattle.re_texts.specs.declared.sections.Section.{Section}
use Rattle.re_texts.specs.declared.sections.Section.TheVariants.{From, To, Map}

-- what was read behind some lines: nothing; lines of the first problem's text, of which the first stands at this byte and has this
-- number; the first problem, and lines of the second one's text; both problems, and the images of the first labels, each as a set
pub data State : Type 0 where
  Start : State
  InFrom : ℕ → ℕ → List (List ℕ) → State
  InTo : NamedProblem → ℕ → ℕ → List (List ℕ) → State
  InMap : NamedProblem → NamedProblem → List (List ℕ) → State

-- ---- section lines: the next line stands at this byte, the section line has this number
abbrev pub from_begins : ℕ → ℕ → Section → Result State InputFault
from_begins next number From = Ok (InFrom next (number + 1) [])
from_begins next number section = Err (BadSection number)

abbrev pub to_begins : NamedProblem → ℕ → ℕ → Section → Result State InputFault
to_begins from next number To = Ok (InTo from next (number + 1) [])
to_begins from next number section = Err (BadSection number)

abbrev pub map_begins : NamedProblem → NamedProblem → ℕ → Section → Result State InputFault
map_begins from to number Map = Ok (InMap from to [])
map_begins from to number section = Err (BadSection number)

-- ---- entries
abbrev pub takes_image : NamedProblem → NamedProblem → List (List ℕ) → ℕ → Bool → Option (List ℕ) → Result State InputFault
takes_image from to images number false image = Err (BadEntry number)
takes_image from to images number true None = Err (BadEntry number)
takes_image from to images number true (Some image) = Ok (InMap from to (images ++ image ∷ []))

-- an entry: the label whose turn it is, and its image
abbrev pub takes_entry : MapKind → NamedProblem → NamedProblem → List (List ℕ) → ℕ → ItemPair → Result State InputFault
takes_entry kind from to images number pair =
    takes_image from to images number (is_next (label_held (source kind from to).names pair.left) (length images)) (image_on kind (target kind from to).names pair.right)

abbrev pub takes_items : MapKind → NamedProblem → NamedProblem → List (List ℕ) → ℕ → Option ItemPair → Result State InputFault
takes_items kind from to images number None = Err (BadItem number)
takes_items kind from to images number (Some pair) = if has_group kind pair then Err (BadItem number) else takes_entry kind from to images number pair

-- ---- a line that stands at this byte and has this number, behind the lines before it
-- before the first section line
abbrev pub judged_start : ℕ → ℕ → List ℕ → Result State InputFault
judged_start byte number line = if is_empty_line line then Ok Start else from_begins (byte + length line + 1) number (section_of line)

-- in the text of the first problem
abbrev pub judged_from : ℕ → ℕ → ℕ → ℕ → List (List ℕ) → List ℕ → Result State InputFault
judged_from byte number text_byte text_line text line =
    if is_section line then fault_or (end_fault text_line text) (to_begins (problem_of text) (byte + length line + 1) number (section_of line))
    else fault_or (fault_at text_byte text_line text line) (Ok (InFrom text_byte text_line (text ++ line ∷ [])))

-- in the text of the second problem
abbrev pub judged_to : ℕ → NamedProblem → ℕ → ℕ → List (List ℕ) → List ℕ → Result State InputFault
judged_to number from text_byte text_line text line =
    if is_section line then fault_or (end_fault text_line text) (map_begins from (problem_of text) number (section_of line))
    else fault_or (fault_at text_byte text_line text line) (Ok (InTo from text_byte text_line (text ++ line ∷ [])))

-- in the map
abbrev pub judged_map : MapKind → ℕ → ℕ → NamedProblem → NamedProblem → List (List ℕ) → List ℕ → Result State InputFault
judged_map kind byte number from to images line =
    if is_section line then Err (BadSection number)
    else if is_empty_line line then Ok (InMap from to images)
    else fault_or (byte_fault byte (bad_byte line)) (takes_items kind from to images number (pair_on line))

abbrev pub judged : MapKind → ℕ → ℕ → State → List ℕ → Result State InputFault
judged kind byte number Start line = judged_start byte number line
judged kind byte number (InFrom text_byte text_line text) line = judged_from byte number text_byte text_line text line
judged kind byte number (InTo from text_byte text_line text) line = judged_to number from text_byte text_line text line
judged kind byte number (InMap from to images) line = judged_map kind byte number from to images line

-- ---- texts
-- two problems, and the images of the labels of the one, each as a set of labels of the other
pub record MapText : Type 0 where
  pub from : NamedProblem
  pub to : NamedProblem
  pub images : List (List ℕ)

-- the end of the lines, where the next one would have this number: each label must have its image
abbrev pub ended : MapKind → ℕ → State → Result MapText InputFault
ended kind number (InMap from to images) =
    if length images == length (source kind from to).names then Ok (record { from = from; to = to; images = images }) else Err (BadEntry number)
ended kind number s = Err EarlyEnd

abbrev pub and_behind : Result State InputFault → (State → Result MapText InputFault) → Result MapText InputFault
and_behind (Ok s) then_state = then_state s
and_behind (Err fault) then_state = Err fault

-- what the lines write behind this state, or their first fault; the first of them stands at this byte and has this number
abbrev pub behind : MapKind → ℕ → ℕ → State → List (List ℕ) → Result MapText InputFault
behind kind byte number s [] = ended kind number s
behind kind byte number s (line ∷ lines) = and_behind (judged kind byte number s line) (λ t. behind kind (byte + length line + 1) (number + 1) t lines)

-- what a text writes, or its first fault
abbrev pub map_text : MapKind → List ℕ → Result MapText InputFault
map_text kind text = behind kind 0 1 Start (lines_of text)
