-- The lines of the faults of an input problem.
use Rattle.std.specs.Prelude.{List, ℕ, ◌++◌, codes, Option, None, Some}
use Rattle.re_settings.specs.declared.inputs.InputFault.{InputFault}
use Rattle.re_settings.specs.declared.inputs.InputFault.TheVariants.{Degrees, Empty, OneSide}
use Rattle.re_frame.specs.Outcomes.{Outcome, refused}
use Rattle.re_texts.specs.SetTexts.{named_text}
use Rattle.re_problem.specs.NamedProblems.{NamedProblem}

-- the line where the text behind `== given` writes no input problem
abbrev pub fault_line : NamedProblem → InputFault → List ℕ
fault_line input Degrees = codes "no: not an input: degrees\n"
fault_line input Empty = codes "no: not an input: empty\n"
fault_line input (OneSide label) = codes "no: not an input: " ++ named_text input.names label ++ codes "\n"

-- that line, and where it writes one the other outcome
abbrev pub or_input_fault : NamedProblem → Option InputFault → Outcome → Outcome
or_input_fault input (Some fault) outcome = refused (fault_line input fault)
or_input_fault input None outcome = outcome
