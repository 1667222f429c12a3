-- What `rounds` answers to a text: a problem text, or one with a line `== given` and an input problem behind it.
use Rattle.std.specs.Prelude.{◌≡◌, ℕ, List, codes, if◌then◌else◌, Option, None, Some, Result, Ok, Err}
use Rattle.re_settings.specs.InputProblems.{input_fault}
use Rattle.re_settings.specs.declared.inputs.InputFault.{InputFault as Fault}
use Rattle.re_frame.specs.Outcomes.{Outcome, refused}
use Rattle.re_frame.specs.TextFaults.{fault_outcome}
use Rattle.re_problem.specs.NamedProblems.{NamedProblem}
use Rattle.re_problem.specs.ProblemTexts.{lines_of, problem_of}
use Rattle.re_problem.specs.declared.fault.InputFault.{InputFault}
use Rattle.re_problem.specs.declared.fault.TextFault.{TextFault}
use Rattle.re_problem.specs.declared.fault.TextFault.TheVariants.{Bad, NoMemory}
use Rattle.re_chains.specs.TwoTexts.{has_line, problem_fault, problem_lines}
use Rattle.re_given_words.specs.Counting.{IsCountedLine}
use Rattle.re_settings.specs.GivenTexts.{given_fault, given_input, given_problem}
use Rattle.re_settings.specs.InputFaults.{fault_line}
use Rattle.re_given_words.specs.declared.counting.RoundsTexts.{RoundsTexts}

-- ---- the text
-- its first fault, if any
abbrev pub rounds_fault : List ℕ → Option InputFault
rounds_fault bytes = if has_line (codes "given") bytes then given_fault bytes else problem_fault 0 1 (lines_of bytes)

-- its problem
abbrev pub rounds_problem : List ℕ → NamedProblem
rounds_problem bytes = if has_line (codes "given") bytes then given_problem bytes else problem_of (problem_lines (lines_of bytes))

-- its input problem, where the line stands
abbrev pub rounds_input : List ℕ → Option NamedProblem
rounds_input bytes = if has_line (codes "given") bytes then Some (given_input bytes) else None

-- what the reading gives: the problem and the input problem exactly where the text has no fault, and else its first fault
abbrev pub RoundsRefuses : List ℕ → TextFault → Type 0
RoundsRefuses text (Bad fault) = rounds_fault text ≡ Some fault
RoundsRefuses text NoMemory = Unit {0}

abbrev pub RoundsGives : List ℕ → Result RoundsTexts TextFault → Type 0
RoundsGives text (Ok texts) = (rounds_fault text ≡ None) × (texts.problem ≡ rounds_problem text) × (texts.input ≡ rounds_input text)
RoundsGives text (Err fault) = RoundsRefuses text fault

-- ---- the answer
-- the fault of the input problem, where there is one
abbrev pub beside_fault : NamedProblem → Option NamedProblem → Option Fault
beside_fault problem None = None
beside_fault problem (Some input) = input_fault problem input

abbrev pub input_line : Option NamedProblem → Fault → List ℕ
input_line None fault = codes ""
input_line (Some input) fault = fault_line input fault

-- its line comes before
abbrev pub MayCountBeside : Option Fault → NamedProblem → Option NamedProblem → ℕ → Outcome → Type 0
MayCountBeside (Some fault) problem input most outcome = outcome ≡ refused (input_line input fault)
MayCountBeside None problem input most outcome = IsCountedLine problem input most outcome

-- and that of the fault of the text
abbrev pub MayCountRead : Option InputFault → NamedProblem → Option NamedProblem → ℕ → Outcome → Type 0
MayCountRead (Some fault) problem input most outcome = outcome ≡ fault_outcome fault
MayCountRead None problem input most outcome = MayCountBeside (beside_fault problem input) problem input most outcome

unfoldable pub MayCount : ℕ → List ℕ → Outcome → Type 0
MayCount most bytes outcome = MayCountRead (rounds_fault bytes) (rounds_problem bytes) (rounds_input bytes) most outcome
