-- What the word `evidence` may give.
use Rattle.std.specs.Prelude.{◌≡◌, ◌≢◌, ◌<◌, ◌≤◌, ◌⊎◌, ℕ, List, [], ◌∷◌, ◌++◌, codes, length, Option, None, Some}
use Rattle.re_flexible.specs.Lengths.{IsFlexibility}
use Rattle.re_flexible.specs.declared.levels.Flexibility.{Flexibility}
use Rattle.re_frame.specs.Outcomes.{Outcome, refused, too_long}
use Rattle.re_frame.specs.TextFaults.{fault_outcome}
use Rattle.re_frame.specs.declared.status.Status.TheVariants.{Done}
use Rattle.re_io.specs.declared.read.TheConstants.{MAX_BYTES}
use Rattle.re_judging.specs.Joints.{first_part}
use Rattle.re_judging.specs.Judging.{IsTold, MayJudge}
use Rattle.re_judging.specs.PartVerdicts.{IsPart}
use Rattle.re_judging.specs.declared.types.Judged.{Judged}
use Rattle.re_judging.specs.declared.types.Judged.TheVariants.{Holds, Refused}
use Rattle.re_problem.specs.NamedProblems.{NamedProblem, unnamed}
use Rattle.re_problem.specs.ProblemTexts.{first_fault, lines_of, problem_of}
use Rattle.re_problem.specs.declared.fault.InputFault.{InputFault}
use Rattle.re_explore.specs.EvidenceLevels.{levels_part}

-- ---- evidence of a problem
-- a part holds, and is of this problem
abbrev pub IsOf : NamedProblem → Judged → Type 0
IsOf problem (Holds part) = part.problem ≡ problem
IsOf problem (Refused output) = ⊥

-- a text of evidence of the problem: no longer than one that is read, `judge` may answer Done to it, and its first part is of this problem
pub record IsEvidence (problem : NamedProblem) (text : List ℕ) : Type 0 where
  pub few : length text ≤ MAX_BYTES
  pub outcome : Outcome
  pub may : MayJudge text outcome
  pub holds : outcome.status ≡ Done
  pub of_problem : IsOf problem may.first

-- whenever `judge` answers Done to such a text, each line is true of the problem
abbrev pub EvidenceLaw : Type 0
EvidenceLaw = (problem : NamedProblem) (text : List ℕ) → IsEvidence problem text → (outcome : Outcome) → MayJudge text outcome → outcome.status ≡ Done → IsTold problem outcome

-- ---- its first part
-- the first part of the text holds, and is of this problem
abbrev pub IsOfFirst : NamedProblem → List ℕ → Type 0
IsOfFirst problem text = (judged : Judged) × IsPart (first_part text) judged × IsOf problem judged

-- it is no evidence of it: `judge` may answer something else than Done, or its first part doesn't hold, or is of another problem
abbrev pub IsUnjudged : NamedProblem → List ℕ → Type 0
IsUnjudged problem text =
    ((outcome : Outcome) × MayJudge text outcome × (outcome.status ≢ Done)) ⊎ ((judged : Judged) × IsPart (first_part text) judged × (IsOf problem judged → ⊥))

-- ---- its other parts
-- the text with a line between parts and a part behind it
abbrev pub with_joint : List ℕ → List ℕ → List ℕ
with_joint text part = (text ++ codes "=====\n") ++ part

-- a part is left out only where the text with it is longer than an input may be, or no evidence of the problem
abbrev pub IsLeftOut : NamedProblem → List ℕ → Type 0
IsLeftOut problem longer = (MAX_BYTES < length longer) ⊎ IsUnjudged problem longer

-- the text goes on by these parts, one behind another in this order: each stands there behind a line between parts, or is left out
abbrev pub Joins : NamedProblem → List ℕ → List (List ℕ) → List ℕ → Type 0
Joins problem text [] longer = longer ≡ text
Joins problem text (part ∷ found) longer =
    Joins problem (with_joint text part) found longer ⊎ (IsLeftOut problem (with_joint text part) × Joins problem text found longer)

-- by the parts that are found
abbrev pub GoesOn : NamedProblem → List ℕ → List ℕ → Type 0
GoesOn problem text longer = (found : List (List ℕ)) × Joins problem text found longer

-- the part that is found, if any
abbrev pub found_part : Option (List ℕ) → List (List ℕ)
found_part None = []
found_part (Some part) = part ∷ []

-- ---- the word
-- the line where the part of the problem's levels of labels isn't evidence
abbrev pub nothing_line : List ℕ
nothing_line = codes "nothing to show\n"

-- nothing is shown where this text is longer than an input may be, or no evidence
abbrev pub IsNothing : NamedProblem → List ℕ → Outcome → Type 0
IsNothing problem text outcome = ((outcome ≡ too_long) × (MAX_BYTES < length text)) ⊎ ((outcome ≡ refused nothing_line) × IsUnjudged problem text)

-- the part of the problem's levels of labels is such a text
pub record IsUnshown (problem : NamedProblem) (outcome : Outcome) : Type 0 where
  pub levels : Flexibility
  pub decided : IsFlexibility (unnamed problem) levels
  pub nothing : IsNothing problem (levels_part problem levels) outcome

-- evidence of the problem: the part of its levels of labels, and behind it each part more that is found, none left out without a cause
pub record IsShown (problem : NamedProblem) (outcome : Outcome) : Type 0 where
  pub status : outcome.status ≡ Done
  pub evidence : IsEvidence problem outcome.text
  pub levels : Flexibility
  pub decided : IsFlexibility (unnamed problem) levels
  pub goes_on : GoesOn problem (levels_part problem levels) outcome.text

-- what may be given to a problem: evidence of it; and nothing only where not even the part of its levels of labels is
abbrev pub IsShowing : NamedProblem → Outcome → Type 0
IsShowing problem outcome = IsShown problem outcome ⊎ IsUnshown problem outcome

-- the line of the first fault of the text, and else what may be given to its problem
abbrev pub MayShowRead : Option InputFault → NamedProblem → Outcome → Type 0
MayShowRead (Some fault) problem outcome = outcome ≡ fault_outcome fault
MayShowRead None problem outcome = IsShowing problem outcome

-- what the word may give to a text
unfoldable pub MayShow : List ℕ → Outcome → Type 0
MayShow bytes outcome = MayShowRead (first_fault 0 1 (lines_of bytes)) (problem_of (lines_of bytes)) outcome
