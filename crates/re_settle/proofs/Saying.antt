-- What the word may answer.
use Rattle.std.proofs.Common.{◌≡◌, ℕ, Bool, true, false, List, Option, Some, None, refl}
use Rattle.std.specs.Prelude.{if◌then◌else◌}
use Rattle.re_frame.proofs.Said.{fault_says, says_as}
use Rattle.re_frame.specs.Outcomes.{Outcome, done, refused}
use Rattle.re_frame.specs.Runs.{MaySay}
use Rattle.re_problem.specs.NamedProblems.{NamedProblem}
use Rattle.re_problem.specs.ProblemTexts.{first_fault, lines_of, problem_of}
use Rattle.re_problem.specs.declared.fault.InputFault.{InputFault}
use Rattle.re_settle.specs.Answers.{MayGive, MayGiveRead}
use Rattle.re_evidence.specs.Claims.{is_final}
use Rattle.re_settle.specs.Claims.{claim_of}
use Rattle.re_settle.specs.Lines.{settled_text}
use Rattle.re_settle.specs.declared.words.SettleWord.{SettleWord}

-- a text with Done or No
pub either_says : (final : Bool) (text : List ℕ) → MaySay (if final then done text else refused text).status true
either_says true text = tt
either_says false text = refl

pub either_text : (final : Bool) (text : List ℕ) → (if final then done text else refused text).text ≡ text
either_text true text = refl
either_text false text = refl

pub either_status : (final : Bool) (one other : List ℕ) → (if final then done one else refused one).status ≡ (if final then done other else refused other).status
either_status true one other = refl
either_status false one other = refl

read_says : (times : ℕ) (fault : Option InputFault) (problem : NamedProblem) (outcome : Outcome) → MayGiveRead times fault problem outcome → MaySay outcome.status true
read_says times (Some fault) problem outcome may = says_as outcome _ may (fault_says fault true)
read_says times None problem outcome may =
    says_as outcome _ may.lines (either_says (is_final (claim_of may.classified.settled)) (settled_text problem may.classified))

pub give_says : (word : SettleWord) (bytes : List ℕ) (outcome : Outcome) → MayGive word bytes outcome → MaySay outcome.status true
unfolding MayGive
give_says word bytes outcome may = read_says word.times (first_fault 0 1 (lines_of bytes)) (problem_of (lines_of bytes)) outcome may
