-- Texts of a bound and a problem: a certificate text, or a problem text, then a line that names what follows, as `== to`, and a problem text.
use Rattle.std.specs.Prelude.{◌≡◌, ◌<◌, ◌≤◌, ◌+◌, ℕ, Bool, true, false, ◌&&◌, List, length, option_map, take, if◌then◌else◌, Option, None, Some, Result, Ok, Err}
use Rattle.std.specs.List.{after_first, before_first, list_any}
use Rattle.std.specs.Option.{option_map_or}
use Rattle.std.specs.Str.{bytes_eq}
use Rattle.re_problem.specs.NamedProblems.{NamedProblem}
use Rattle.re_problem.specs.ProblemTexts.{bytes_of, end_fault, fault_if, first_fault, lines_of, or_else, problem_of}
use Rattle.re_problem.specs.declared.fault.InputFault.{InputFault}
use Rattle.re_problem.specs.declared.fault.InputFault.TheVariants.{BadSection, EarlyEnd}
use Rattle.re_problem.specs.declared.fault.TextFault.{TextFault}
use Rattle.re_problem.specs.declared.fault.TextFault.TheVariants.{Bad, NoMemory}
use Rattle.re_problem.specs.TextReading.{Stands}
use Rattle.re_problem.specs.declared.text_reader.TextReader.{TextReader}
use Rattle.re_problem.specs.SectionLines.{is_section, section_name}
use Rattle.re_cert.specs.Bounds.{Bound}
use Rattle.re_chains.specs.ChainTexts.{chain_fault, text_bound, text_chain}
use Rattle.re_chains.specs.declared.cutting.Cut.{Cut}
use Rattle.re_chains.specs.declared.reading.TwoTexts.{TwoTexts}

-- ---- the line between
-- the line is `==` and this name, with any blanks between and behind them
abbrev pub is_line : List ℕ → List ℕ → Bool
is_line name line = is_section line && option_map_or (λ other. bytes_eq other name) (section_name line) false

abbrev pub has_line : List ℕ → List ℕ → Bool
has_line name bytes = list_any (is_line name) (lines_of bytes)

-- the lines in front of the first such line, and those behind it
abbrev pub lines_before : List ℕ → List ℕ → List (List ℕ)
lines_before name bytes = before_first (is_line name) (lines_of bytes)

abbrev pub lines_behind : List ℕ → List ℕ → List (List ℕ)
lines_behind name bytes = after_first (is_line name) (lines_of bytes)

-- the lines to that line, with it
abbrev pub lines_to : List ℕ → List ℕ → List (List ℕ)
lines_to name bytes = take (length (lines_before name bytes) + 1) (lines_of bytes)

-- ---- the bound
-- the text in front of the line
abbrev pub front_text : List ℕ → List ℕ → List ℕ
front_text name bytes = take (bytes_of (lines_before name bytes)) bytes

-- a certificate that hasn't come to its end before the line, which has this number, doesn't expect it
abbrev pub at_line : ℕ → InputFault → InputFault
at_line number EarlyEnd = BadSection number
at_line number fault = fault

-- ---- the problem
-- the lines before the first section line
abbrev pub problem_lines : List (List ℕ) → List (List ℕ)
problem_lines lines = before_first is_section lines

-- the fault of the problem text, of which the first line stands at this byte and has this number: no section line is expected behind it
abbrev pub problem_fault : ℕ → ℕ → List (List ℕ) → Option InputFault
problem_fault byte number lines =
    or_else (first_fault byte number (problem_lines lines)) (fault_if (list_any is_section lines) (BadSection (number + length (problem_lines lines))))

-- ---- both
-- the first fault of the text, if any: without the line that of the bound's text, and else that it ends too early
unfoldable pub two_fault : List ℕ → List ℕ → Option InputFault
two_fault name bytes =
    if has_line name bytes
    then or_else (option_map (at_line (length (lines_to name bytes))) (chain_fault (front_text name bytes))) (problem_fault (bytes_of (lines_to name bytes)) (length (lines_to name bytes) + 1) (lines_behind name bytes))
    else or_else (chain_fault bytes) (Some EarlyEnd)

-- the bound and the problem, where the text has no fault
abbrev pub front_bound : List ℕ → List ℕ → Bound
front_bound name bytes = text_bound (front_text name bytes)

abbrev pub back_problem : List ℕ → List ℕ → NamedProblem
back_problem name bytes = problem_of (problem_lines (lines_behind name bytes))

-- the chain that the text in front of the line writes
abbrev pub front_chain : List ℕ → List ℕ → Bound
front_chain name bytes = text_chain (front_text name bytes)

-- ---- reading
-- the text is cut here: the text in front of the line, and what stands behind it, of which the first line stands at this byte and has this number
pub record IsCut (name text : List ℕ) (cut : Cut) : Type 0 where
  pub has : has_line name text ≡ true
  pub front : cut.front.now ≡ front_text name text
  pub behind : lines_of cut.behind.now ≡ lines_behind name text
  pub byte : cut.byte ≡ bytes_of (lines_to name text)
  pub number : cut.number ≡ length (lines_to name text) + 1
  pub counted : cut.number ≤ cut.byte + 1
  pub few : length cut.front.now ≤ length text
  pub within : 0 < length cut.behind.now → cut.byte + length cut.behind.now ≤ length text

abbrev pub CutGives : List ℕ → List ℕ → Option Cut → Type 0
CutGives name text None = has_line name text ≡ false
CutGives name text (Some cut) = IsCut name text cut

-- what lines behind it give: their problem exactly where they have no fault, and else the fault
abbrev pub ProblemRefuses : ℕ → ℕ → List (List ℕ) → TextFault → Type 0
ProblemRefuses byte number lines (Bad fault) = problem_fault byte number lines ≡ Some fault
ProblemRefuses byte number lines NoMemory = Unit {0}

abbrev pub ProblemGives : ℕ → ℕ → List (List ℕ) → Result NamedProblem TextFault → Type 0
ProblemGives byte number lines (Ok problem) = (problem_fault byte number lines ≡ None) × (problem ≡ problem_of (problem_lines lines))
ProblemGives byte number lines (Err fault) = ProblemRefuses byte number lines fault

-- what a text gives: its bound and problem exactly where it has no fault, and else its first fault
abbrev pub ReadRefuses : List ℕ → List ℕ → TextFault → Type 0
ReadRefuses name text (Bad fault) = two_fault name text ≡ Some fault
ReadRefuses name text NoMemory = Unit {0}

abbrev pub ReadGives : List ℕ → List ℕ → Result TwoTexts TextFault → Type 0
ReadGives name text (Ok texts) = (two_fault name text ≡ None) × (texts.bound ≡ front_bound name text) × (texts.problem ≡ back_problem name text)
ReadGives name text (Err fault) = ReadRefuses name text fault

-- the same with the chain in place of the bound
abbrev pub ChainReadGives : List ℕ → List ℕ → Result TwoTexts TextFault → Type 0
ChainReadGives name text (Ok texts) = (two_fault name text ≡ None) × (texts.bound ≡ front_chain name text) × (texts.problem ≡ back_problem name text)
ChainReadGives name text (Err fault) = ReadRefuses name text fault

-- the fault of lines that the reader stands for, where a section line of this number stands behind them
abbrev pub SectionRefuses : TextReader → ℕ → TextFault → Type 0
SectionRefuses reader number (Bad fault) =
    (byte start : ℕ) (lines : List (List ℕ)) → Stands reader byte start lines → or_else (end_fault start lines) (Some (BadSection number)) ≡ Some fault
SectionRefuses reader number NoMemory = Unit {0}
