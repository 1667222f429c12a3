-- A word and an input problem that stands behind it by its name: what the word gives to a text, with this input problem behind the text.
use Rattle.std.specs.Prelude.{◌≡◌, ◌==◌, ◌-◌, ℕ, Bool, true, false, List, [], ◌∷◌, ◌++◌, codes, length, slice_get, if◌then◌else◌, option_map, Option, None, Some, Result, Ok, Err}
use Rattle.std.specs.Fmt.{decimal}
use Rattle.std.specs.Option.{option_map_or}
use Rattle.re_chains.specs.ChainTexts.{ReadRefuses, chain_fault, text_chain}
use Rattle.re_chains.specs.TwoTexts.{at_line, front_text, has_line, lines_to, problem_fault, problem_lines}
use Rattle.re_frame.specs.Answers.{MayAnswer}
use Rattle.re_frame.specs.Outcomes.{Outcome, refused}
use Rattle.re_frame.specs.TextFaults.{fault_outcome}
use Rattle.re_inputs.specs.NamedInputs.{fits, input_of}
use Rattle.re_problem.specs.CanonicalTexts.{canonical}
use Rattle.re_problem.specs.NamedProblems.{NamedProblem}
use Rattle.re_problem.specs.ProblemTexts.{lines_of, or_else, problem_of}
use Rattle.re_problem.specs.declared.fault.InputFault.{InputFault}
use Rattle.re_problem.specs.declared.fault.InputFault.TheVariants.{BadSection}
use Rattle.re_problem.specs.declared.fault.TextFault.{TextFault}
use Rattle.re_asking.specs.declared.beside.Degrees.{Degrees}
use Rattle.re_asking.specs.declared.beside.FrontText.{FrontText}
use Rattle.re_asking.specs.declared.beside.FrontText.TheVariants.{Chain, Problem}
use Rattle.re_asking.specs.declared.beside_words.NamedInput.{NamedInput}

-- ---- the text
-- the first fault of a text without an input problem, if any, to a word that reads problems, or chains
abbrev pub alone_fault : FrontText → List ℕ → Option InputFault
alone_fault Problem bytes = problem_fault 0 1 (lines_of bytes)
alone_fault Chain bytes = chain_fault bytes

-- the first fault, if any, where an input problem is to stand behind the text: a line `== given` in it isn't expected
unfoldable pub front_fault : FrontText → List ℕ → Option InputFault
front_fault front bytes =
    if has_line (codes "given") bytes
    then or_else (option_map (at_line (length (lines_to (codes "given") bytes))) (alone_fault front (front_text (codes "given") bytes))) (Some (BadSection (length (lines_to (codes "given") bytes))))
    else alone_fault front bytes

-- the first problem of a text without a fault
abbrev pub first_problem : FrontText → List ℕ → NamedProblem
first_problem Problem bytes = problem_of (problem_lines (lines_of bytes))
first_problem Chain bytes = (text_chain bytes).first

-- ---- the longer text
-- whether the text is empty, or its last line ends with a line feed
abbrev pub is_ended : List ℕ → Bool
is_ended bytes = option_map_or (λ byte. byte == 10) (slice_get bytes (length bytes - 1)) true

-- the text, its last line ended by a line feed
abbrev pub ended : List ℕ → List ℕ
ended bytes = if is_ended bytes then bytes else bytes ++ 10 ∷ []

-- the text, a line `== given`, and the text of the input problem
abbrev pub text_beside : NamedProblem → List ℕ → List ℕ
text_beside input bytes = ended bytes ++ codes "== given\n" ++ canonical input

-- ---- the answer
-- the input problem of this name in the degrees of a problem
abbrev pub input_named : NamedInput → NamedProblem → NamedProblem
input_named input problem = input_of input.kind problem.active.degree problem.passive.degree input.number

-- the line where there is none in these degrees
abbrev pub degrees_line : ℕ → ℕ → List ℕ
degrees_line active passive = codes "no: not an input in degrees " ++ decimal active ++ codes " and " ++ decimal passive ++ codes "\n"

-- by whether there is one: what the word may give to the longer text, which may have no more bytes than an input; or that line
abbrev pub MayGiveIn : Bool → (List ℕ → Outcome → Type 0) → NamedInput → NamedProblem → List ℕ → Outcome → Type 0
MayGiveIn true may input problem bytes outcome = MayAnswer may (text_beside (input_named input problem) bytes) outcome
MayGiveIn false may input problem bytes outcome = outcome ≡ refused (degrees_line problem.active.degree problem.passive.degree)

-- the line of the fault of the text comes before
abbrev pub MayGiveRead : Option InputFault → (List ℕ → Outcome → Type 0) → NamedInput → NamedProblem → List ℕ → Outcome → Type 0
MayGiveRead (Some fault) may input problem bytes outcome = outcome ≡ fault_outcome fault
MayGiveRead None may input problem bytes outcome = MayGiveIn (fits input.kind problem.active.degree problem.passive.degree input.number) may input problem bytes outcome

-- what a word that may give this to texts may give to a text with the named input problem behind it
unfoldable pub MayGiveBeside : (List ℕ → Outcome → Type 0) → FrontText → NamedInput → List ℕ → Outcome → Type 0
MayGiveBeside may front input bytes outcome = MayGiveRead (front_fault front bytes) may input (first_problem front bytes) bytes outcome

-- ---- reading
-- what the reading of a text gives: the degrees of its first problem exactly where it has no fault, and else its first fault
pub record AreDegreesOf (degrees : Degrees) (problem : NamedProblem) : Type 0 where
  pub active : degrees.active ≡ problem.active.degree
  pub passive : degrees.passive ≡ problem.passive.degree

abbrev pub GivesDegrees : Option InputFault → NamedProblem → Result Degrees TextFault → Type 0
GivesDegrees first problem (Ok degrees) = (first ≡ None) × AreDegreesOf degrees problem
GivesDegrees first problem (Err fault) = ReadRefuses first fault
