-- Texts of a problem and an input problem: a problem text, a line `== given`, and a problem text.
use Rattle.std.specs.Prelude.{◌≡◌, ℕ, ◌+◌, List, codes, length, if◌then◌else◌, Option, None, Some, Result, Ok, Err}
use Rattle.re_problem.specs.NamedProblems.{NamedProblem}
use Rattle.re_problem.specs.ProblemTexts.{bytes_of, lines_of, or_else, problem_of}
use Rattle.re_problem.specs.declared.fault.InputFault.{InputFault}
use Rattle.re_problem.specs.declared.fault.InputFault.TheVariants.{EarlyEnd}
use Rattle.re_problem.specs.declared.fault.TextFault.{TextFault}
use Rattle.re_problem.specs.declared.fault.TextFault.TheVariants.{Bad, NoMemory}
use Rattle.re_chains.specs.TwoTexts.{back_problem, front_text, has_line, lines_behind, lines_to, problem_fault, problem_lines}
use Rattle.re_settings.specs.declared.texts.GivenTexts.{GivenTexts}

-- the fault of the text behind the line
abbrev pub input_text_fault : List ℕ → Option InputFault
input_text_fault bytes = problem_fault (bytes_of (lines_to (codes "given") bytes)) (length (lines_to (codes "given") bytes) + 1) (lines_behind (codes "given") bytes)

-- the first fault of the text, if any: without the line that of the problem's text, and else that it ends too early
unfoldable pub given_fault : List ℕ → Option InputFault
given_fault bytes =
    if has_line (codes "given") bytes
    then or_else (problem_fault 0 1 (lines_of (front_text (codes "given") bytes))) (input_text_fault bytes)
    else or_else (problem_fault 0 1 (lines_of bytes)) (Some EarlyEnd)

-- the problem in front of the line
abbrev pub given_problem : List ℕ → NamedProblem
given_problem bytes = problem_of (problem_lines (lines_of (front_text (codes "given") bytes)))

-- the input problem behind it
abbrev pub given_input : List ℕ → NamedProblem
given_input bytes = back_problem (codes "given") bytes

-- what a text gives: its problem and its input problem exactly where it has no fault, and else its first fault
abbrev pub GivenRefuses : List ℕ → TextFault → Type 0
GivenRefuses text (Bad fault) = given_fault text ≡ Some fault
GivenRefuses text NoMemory = Unit {0}

abbrev pub GivenGives : List ℕ → Result GivenTexts TextFault → Type 0
GivenGives text (Ok texts) = (given_fault text ≡ None) × (texts.problem ≡ given_problem text) × (texts.input ≡ given_input text)
GivenGives text (Err fault) = GivenRefuses text fault
