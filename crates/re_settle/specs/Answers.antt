-- What the word `settle` may answer.
use Rattle.std.specs.Prelude.{◌≡◌, ℕ, List, Option, Some, None, if◌then◌else◌}
use Rattle.re_frame.specs.Outcomes.{Outcome, done, refused}
use Rattle.re_frame.specs.TextFaults.{fault_outcome}
use Rattle.re_problem.specs.NamedProblems.{NamedProblem}
use Rattle.re_problem.specs.ProblemTexts.{first_fault, lines_of, problem_of}
use Rattle.re_problem.specs.declared.fault.InputFault.{InputFault}
use Rattle.re_evidence.specs.Claims.{is_final}
use Rattle.re_settle.specs.Claims.{claim_of}
use Rattle.re_settle.specs.Lines.{settled_text}
use Rattle.re_settle.specs.Ways.{IsSettled}
use Rattle.re_settle.specs.declared.types.Classified.{Classified}
use Rattle.re_settle.specs.declared.types.Settled.{Settled}
use Rattle.re_settle.specs.declared.words.SettleWord.{SettleWord}

-- a text with Done where the claim leaves no question, and else with No
abbrev pub by_claim : Settled → List ℕ → Outcome
by_claim settled text = if is_final (claim_of settled) then done text else refused text

-- the lines of what is known of a problem
abbrev pub settled_outcome : NamedProblem → Classified → Outcome
settled_outcome problem classified = by_claim classified.settled (settled_text problem classified)

-- the lines of something that is known of the problem, where bounds are taken so many times: shown by the words that they name, and true
pub record IsAnswer (times : ℕ) (problem : NamedProblem) (outcome : Outcome) : Type 0 where
  pub classified : Classified
  pub lines : outcome ≡ settled_outcome problem classified
  pub known : IsSettled times problem classified

-- the line of the first fault of the text, and else such an answer on its problem
abbrev pub MayGiveRead : ℕ → Option InputFault → NamedProblem → Outcome → Type 0
MayGiveRead times (Some fault) problem outcome = outcome ≡ fault_outcome fault
MayGiveRead times None problem outcome = IsAnswer times problem outcome

-- what the word may give to a text
unfoldable pub MayGive : SettleWord → List ℕ → Outcome → Type 0
MayGive word bytes outcome = MayGiveRead word.times (first_fault 0 1 (lines_of bytes)) (problem_of (lines_of bytes)) outcome
