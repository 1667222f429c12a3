-- Whether a problem is an input problem of another one.
use Rattle.std.specs.Prelude.{ℕ, ◌<◌, ◌==◌, Bool, not, ◌&&◌, ◌||◌, length, find, if◌then◌else◌, Option, None, Some}
use Rattle.re_labels.specs.Lists.{count_from}
use Rattle.re_problem.specs.NamedProblems.{NamedProblem, occurs, unnamed}
use Rattle.re_given.specs.Inputs.{IsInput}
use Rattle.re_settings.specs.declared.inputs.InputFault.{InputFault}
use Rattle.re_settings.specs.declared.inputs.InputFault.TheVariants.{Degrees, Empty, OneSide}

-- whether the label stands in configurations of one side alone
abbrev pub is_one_sided : NamedProblem → ℕ → Bool
is_one_sided input label = not (occurs input.active label && occurs input.passive label) && (occurs input.active label || occurs input.passive label)

-- the first label that stands on one side alone, or that there is no label
abbrev pub side_fault : NamedProblem → Option ℕ → Option InputFault
side_fault input (Some label) = Some (OneSide label)
side_fault input None = if length input.names == 0 then Some Empty else None

-- the first reason for which it is none: other degrees, a label that stands on one side alone, or no label
abbrev pub input_fault : NamedProblem → NamedProblem → Option InputFault
input_fault problem input =
    if input.active.degree == problem.active.degree && input.passive.degree == problem.passive.degree
    then side_fault input (find (is_one_sided input) (count_from 0 (length input.names))) else Some Degrees

-- the label that it names is one of the input problem
abbrev pub IsOf : NamedProblem → InputFault → Type 0
IsOf input Degrees = Unit {0}
IsOf input Empty = Unit {0}
IsOf input (OneSide label) = label < length input.names

-- none exactly where it is an input problem
abbrev pub IsJudged : NamedProblem → NamedProblem → Option InputFault → Type 0
IsJudged problem input None = IsInput (unnamed problem) (unnamed input)
IsJudged problem input (Some fault) = IsOf input fault × (IsInput (unnamed problem) (unnamed input) → ⊥)
