-- What `judge` answers to a text of evidence.
use Rattle.std.specs.Prelude.{◌≡◌, ◌≢◌, ◌⊎◌, ℕ, zero, suc, List, ◌++◌, codes, Option, None, Some}
use Rattle.std.specs.Fmt.{decimal}
use Rattle.re_judging.specs.Facts.{IsTrueOf, claim_from, class_from, nothing_known, with_fact}
use Rattle.re_judging.specs.Joints.{behind_joint, first_part, joint_at}
use Rattle.re_evidence.specs.Lines.{alone_text, claim_text, class_text}
use Rattle.re_judging.specs.PartVerdicts.{IsPart}
use Rattle.re_evidence.specs.declared.types.Claim.{Claim}
use Rattle.re_evidence.specs.declared.types.Class.{Class}
use Rattle.re_judging.specs.declared.types.Judged.{Judged}
use Rattle.re_judging.specs.declared.types.Judged.TheVariants.{Holds, Refused}
use Rattle.re_judging.specs.declared.types.Known.{Known}
use Rattle.re_frame.specs.Outcomes.{Outcome, done, limit_of, outcome_of, refused}
use Rattle.re_frame.specs.declared.status.Status.{Status}
use Rattle.re_frame.specs.declared.status.Status.TheVariants.{BadInput, Done, Limit, No}
use Rattle.re_problem.specs.NamedProblems.{NamedProblem, unnamed}

-- ---- the lines
abbrev pub claim_line : ℕ → Option Claim → List ℕ
claim_line passive None = codes ""
claim_line passive (Some claim) = codes "holds: " ++ (claim_text passive claim ++ alone_text claim)

abbrev pub class_line : Option Class → List ℕ
class_line None = codes "nothing follows\n"
class_line (Some class) = codes "holds: with identifiers: " ++ (class_text class ++ codes "\n")

-- each claim and class that follows from what is known of the problem
abbrev pub told : NamedProblem → Known → Outcome
told problem known = done (claim_line problem.passive.degree (claim_from known) ++ class_line (class_from (unnamed problem) known))

-- a fault of the text of a part stays one, and so does a limit that it passes; else it is refused with No, also where its word would answer Done
abbrev pub refused_status : Status → Status
refused_status BadInput = BadInput
refused_status Limit = Limit
refused_status status = No

-- the line of a part that is refused
abbrev pub in_part : ℕ → Outcome → Outcome
in_part number outcome = record { status = refused_status outcome.status; text = codes "part " ++ (decimal number ++ (codes ": " ++ outcome.text)) }

-- that of a part on another problem
abbrev pub other_problem : Outcome
other_problem = refused (codes "not the problem of part 1\n")

-- ---- part by part
-- what comes of the part of this number: its refusal, or it is of the first part's problem, and what is known is more
abbrev pub IsJudgedBy : (Known → Outcome → Type 0) → ℕ → NamedProblem → Known → Judged → Outcome → Type 0
IsJudgedBy further number problem known (Refused output) outcome = outcome ≡ in_part number (outcome_of output)
IsJudgedBy further number problem known (Holds part) outcome =
    ((part.problem ≡ problem) × further (with_fact known part.fact) outcome) ⊎ ((part.problem ≢ problem) × (outcome ≡ in_part number other_problem))

-- the next part, where there is one, is judged; where none is left, what is known is told
abbrev pub IsNext : (List ℕ → Known → Outcome → Type 0) → Option ℕ → ℕ → NamedProblem → Known → List ℕ → Outcome → Type 0
IsNext further None number problem known bytes outcome = outcome ≡ told problem known
IsNext further (Some at) number problem known bytes outcome =
    (judged : Judged) × IsPart (first_part (behind_joint at bytes)) judged × IsJudgedBy (further (behind_joint at bytes)) number problem known judged outcome

-- no part may be left
abbrev pub IsLast : Option ℕ → NamedProblem → Known → Outcome → Type 0
IsLast None problem known outcome = outcome ≡ told problem known
IsLast (Some at) problem known outcome = outcome ≡ limit_of 16 (codes "parts")

-- what is answered behind the first part of a text, where so many may follow, of which the first has this number
abbrev pub GoesOn : ℕ → ℕ → NamedProblem → List ℕ → Known → Outcome → Type 0
GoesOn zero number problem bytes known outcome = IsLast (joint_at bytes) problem known outcome
GoesOn (suc left) number problem bytes known outcome = IsNext (GoesOn left (suc number) problem) (joint_at bytes) number problem known bytes outcome

abbrev pub IsJudgedFirst : List ℕ → Judged → Outcome → Type 0
IsJudgedFirst bytes (Refused output) outcome = outcome ≡ in_part 1 (outcome_of output)
IsJudgedFirst bytes (Holds part) outcome = GoesOn 15 2 part.problem bytes (with_fact nothing_known part.fact) outcome

-- what may be answered to a text
pub record MayJudge (bytes : List ℕ) (outcome : Outcome) : Type 0 where
  pub first : Judged
  pub judged : IsPart (first_part bytes) first
  pub answer : IsJudgedFirst bytes first outcome

-- ---- what it means
-- what is told of the problem is true
pub record IsTold (problem : NamedProblem) (outcome : Outcome) : Type 0 where
  pub known : Known
  pub lines : outcome ≡ told problem known
  pub is_true : IsTrueOf known (unnamed problem)

-- of the problem of the first part, where there is no refusal
abbrev pub IsToldOf : Judged → Outcome → Type 0
IsToldOf (Refused output) outcome = ⊥
IsToldOf (Holds part) outcome = IsTold part.problem outcome

abbrev pub JudgeLaw : Type 0
JudgeLaw = (bytes : List ℕ) (outcome : Outcome) → (may : MayJudge bytes outcome) → outcome.status ≡ Done → IsToldOf may.first outcome
