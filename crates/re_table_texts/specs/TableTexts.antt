-- The texts of tables, line by line: what a line brings behind the lines before it.
use Rattle.std.specs.Prelude.{ℕ, ◌+◌, ◌==◌, nat_le, nat_lt, Bool, true, ◌&&◌, List, [], ◌∷◌, ◌++◌, length, is_some, unwrap_or, if◌then◌else◌, Option, None, Some, Result, Ok, Err}
use Rattle.std.specs.Option.{option_map}
use Rattle.re_algo.specs.Tables.{AnswerTable, views_of}
use Rattle.re_cert.specs.Entries.{image_labels, label_items}
use Rattle.re_problem.specs.Bytes.{bad_byte, is_empty_line}
use Rattle.re_problem.specs.Items.{ItemText}
use Rattle.re_algo.specs.Counting.{view_count}
use Rattle.re_problem.specs.NamedProblems.{NamedProblem}
use Rattle.re_problem.specs.ProblemTexts.{byte_fault, end_fault, fault_at, fault_or, lines_of, problem_of}
use Rattle.re_problem.specs.declared.fault.InputFault.{InputFault}
use Rattle.re_problem.specs.declared.fault.InputFault.TheVariants.{BadItem, BadSection, BadEntry, EarlyEnd, TooManyViews}
use Rattle.re_problem.specs.SectionLines.{is_section}
use Rattle.re_table_texts.specs.SectionLines.{section_of}
use Rattle.re_table_texts.specs.declared.sections.Section.{Section}
use Rattle.re_table_texts.specs.declared.sections.Section.TheVariants.{Next, Problem, Table}
use Rattle.re_table_texts.specs.declared.table_texts.TableForm.{TableForm}
use Rattle.re_table_texts.specs.declared.table_texts.TableForm.TheVariants.{Faster, Slower}

-- what was read behind some lines: nothing; the problem of the text before, if any, and lines of a problem text, of which the first
-- stands at this byte and has this number; the problem of the text before the last one, if any, that of the last one, the radius,
-- and the answers of the first views
pub data State : Type 0 where
  Start : State
  InText : Option NamedProblem → ℕ → ℕ → List (List ℕ) → State
  InTable : Option NamedProblem → NamedProblem → ℕ → List (List ℕ) → State

-- ---- section lines: the next line stands at this byte, the section line has this number
abbrev pub problem_begins : ℕ → ℕ → Section → Result State InputFault
problem_begins next number Problem = Ok (InText None next (number + 1) [])
problem_begins next number section = Err (BadSection number)

-- the next problem stands behind the first one, in the texts that `slower` reads alone
abbrev pub next_begins : TableForm → ℕ → ℕ → Option NamedProblem → NamedProblem → Result State InputFault
next_begins Slower next number None problem = Ok (InText (Some problem) next (number + 1) [])
next_begins form next number first problem = Err (BadSection number)

-- whether all problems have come
abbrev pub are_all : TableForm → Option NamedProblem → Bool
are_all Slower first = is_some first
are_all form first = true

-- whether the radius may stand: a table of `faster` has some round to give
abbrev pub may_stand : TableForm → ℕ → Bool
may_stand Faster radius = nat_le 1 radius
may_stand form radius = true

abbrev pub table_counted : ℕ → Option NamedProblem → NamedProblem → ℕ → Option ℕ → Result State InputFault
table_counted number first owner radius None = Err (TooManyViews number)
table_counted number first owner radius (Some count) = Ok (InTable first owner radius [])

-- the table is one for the problem of the last text
abbrev pub table_begins : TableForm → ℕ → Option NamedProblem → NamedProblem → ℕ → Result State InputFault
table_begins form number first owner radius =
    if are_all form first && may_stand form radius then table_counted number first owner radius (view_count owner.active.degree owner.passive.degree radius)
    else Err (BadSection number)

-- behind the text of a problem
abbrev pub text_ends : TableForm → ℕ → ℕ → Option NamedProblem → NamedProblem → Section → Result State InputFault
text_ends form next number first problem Next = next_begins form next number first problem
text_ends form next number first problem (Table radius) = table_begins form number first problem radius
text_ends form next number first problem section = Err (BadSection number)

-- ---- answers
-- the table so far, of these answers
abbrev pub table_of : NamedProblem → ℕ → List (List ℕ) → AnswerTable
table_of owner radius answers = record { degrees = record { active = owner.active.degree; passive = owner.passive.degree }; radius = radius; answers = answers }

-- whether some view has no answer yet
abbrev pub has_room : AnswerTable → Bool
has_room table = nat_lt (length table.answers) (length (views_of table))

abbrev pub takes_labels : ℕ → Option NamedProblem → NamedProblem → ℕ → List (List ℕ) → Option (List ℕ) → Result State InputFault
takes_labels number first owner radius answers None = Err (BadEntry number)
takes_labels number first owner radius answers (Some labels) =
    if has_room (table_of owner radius answers) then Ok (InTable first owner radius (answers ++ labels ∷ [])) else Err (BadEntry number)

-- an answer: labels without power, known ones, as many as active nodes have ports, and no line too many
abbrev pub takes_items : ℕ → Option NamedProblem → NamedProblem → ℕ → List (List ℕ) → Option (List ItemText) → Result State InputFault
takes_items number first owner radius answers None = Err (BadItem number)
takes_items number first owner radius answers (Some items) = takes_labels number first owner radius answers (image_labels owner.names owner.active.degree items)

-- ---- a line that stands at this byte and has this number, behind the lines before it
-- before the first section line
abbrev pub judged_start : ℕ → ℕ → List ℕ → Result State InputFault
judged_start byte number line = if is_empty_line line then Ok Start else problem_begins (byte + length line + 1) number (section_of line)

-- in the text of a problem
abbrev pub judged_text : TableForm → ℕ → ℕ → Option NamedProblem → ℕ → ℕ → List (List ℕ) → List ℕ → Result State InputFault
judged_text form byte number first text_byte text_line text line =
    if is_section line then fault_or (end_fault text_line text) (text_ends form (byte + length line + 1) number first (problem_of text) (section_of line))
    else fault_or (fault_at text_byte text_line text line) (Ok (InText first text_byte text_line (text ++ line ∷ [])))

-- in the table
abbrev pub judged_table : ℕ → ℕ → Option NamedProblem → NamedProblem → ℕ → List (List ℕ) → List ℕ → Result State InputFault
judged_table byte number first owner radius answers line =
    if is_section line then Err (BadSection number)
    else if is_empty_line line then Ok (InTable first owner radius answers)
    else fault_or (byte_fault byte (bad_byte line)) (takes_items number first owner radius answers (label_items line))

abbrev pub judged : TableForm → ℕ → ℕ → State → List ℕ → Result State InputFault
judged form byte number Start line = judged_start byte number line
judged form byte number (InText first text_byte text_line text) line = judged_text form byte number first text_byte text_line text line
judged form byte number (InTable first owner radius answers) line = judged_table byte number first owner radius answers line

-- ---- texts
-- a problem, the next one where it stands, and a table for the last of them
pub record TableText : Type 0 where
  pub problem : NamedProblem
  pub next : Option NamedProblem
  pub table : AnswerTable

abbrev pub text_of : Option NamedProblem → NamedProblem → AnswerTable → TableText
text_of first owner table = record { problem = unwrap_or first owner; next = option_map (λ problem. owner) first; table = table }

-- the end of the lines, where the next one would have this number: each view must have its answer
abbrev pub ended : ℕ → State → Result TableText InputFault
ended number (InTable first owner radius answers) =
    let table = table_of owner radius answers in if length answers == length (views_of table) then Ok (text_of first owner table) else Err (BadEntry number)
ended number s = Err EarlyEnd

abbrev pub and_behind : Result State InputFault → (State → Result TableText InputFault) → Result TableText InputFault
and_behind (Ok s) then_state = then_state s
and_behind (Err fault) then_state = Err fault

-- what the lines write behind this state, or their first fault; the first of them stands at this byte and has this number
abbrev pub behind : TableForm → ℕ → ℕ → State → List (List ℕ) → Result TableText InputFault
behind form byte number s [] = ended number s
behind form byte number s (line ∷ lines) = and_behind (judged form byte number s line) (λ t. behind form (byte + length line + 1) (number + 1) t lines)

-- what a text writes, or its first fault
abbrev pub table_input : TableForm → List ℕ → Result TableText InputFault
table_input form text = behind form 0 1 Start (lines_of text)
