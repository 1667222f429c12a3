-- What the word `greedy` may answer.
use Rattle.std.specs.Prelude.{◌≡◌, ℕ, nat_lt, List, codes, if◌then◌else◌, length, Option, Some, None}
use Rattle.re_cert.specs.Bounds.{last_problem}
use Rattle.re_chains.specs.ChainTexts.{chain_fault, text_chain}
use Rattle.re_classes.specs.Classes.{IsBelowLogStar}
use Rattle.re_classes.specs.Laws.{IsSolvableColoured}
use Rattle.re_forest_words.specs.Answers.{MayGive as MayGiveFlexible}
use Rattle.re_forest_words.specs.GreedyTexts.{shown_text}
use Rattle.re_forest_words.specs.Showings.{IsShowing}
use Rattle.re_forest_words.specs.declared.showing.Showing.{Showing}
use Rattle.re_forest_words.specs.declared.showing.Showing.TheVariants.{NotGreedy, Shown, Unknown}
use Rattle.re_forest_words.specs.declared.words.ForestWord.{ForestWord}
use Rattle.re_forest_words.specs.declared.words.ForestWord.TheVariants.{Flexible, Greedy}
use Rattle.re_frame.specs.Outcomes.{Outcome, done, refused, too_long}
use Rattle.re_frame.specs.TextFaults.{fault_outcome}
use Rattle.re_frame.specs.declared.status.Status.TheVariants.{Done}
use Rattle.re_io.specs.declared.read.TheConstants.{MAX_BYTES}
use Rattle.re_problem.specs.NamedProblems.{NamedProblem, unnamed}
use Rattle.re_problem.specs.Problems.{IsProblem}
use Rattle.re_problem.specs.declared.fault.InputFault.{InputFault}

-- the text of what shows it, where it isn't longer than an input may be; or No
abbrev pub showing_outcome : Showing → Outcome
showing_outcome (Shown shown) = if nat_lt MAX_BYTES (length (shown_text shown)) then too_long else done (shown_text shown)
showing_outcome NotGreedy = refused (codes "no: not greedy\n")
showing_outcome Unknown = refused (codes "not found\n")

-- the outcome for what shows that the problem, or one behind at most so many derived problems, is greedy, or for that nothing does
pub record IsAnswer (most : ℕ) (problem : NamedProblem) (outcome : Outcome) : Type 0 where
  pub problem_is : IsProblem (unnamed problem)
  pub showing : Showing
  pub is : IsShowing (unnamed problem) most showing
  pub text : outcome ≡ showing_outcome showing

-- the line of the first fault of the text, and else this one of the last problem
abbrev pub MayGiveRead : ℕ → Option InputFault → NamedProblem → Outcome → Type 0
MayGiveRead most (Some fault) problem outcome = outcome ≡ fault_outcome fault
MayGiveRead most None problem outcome = IsAnswer most problem outcome

-- what the word may give to a text, which writes a chain
unfoldable pub MayGiveGreedy : ℕ → List ℕ → Outcome → Type 0
MayGiveGreedy most bytes outcome = MayGiveRead most (chain_fault bytes) (last_problem (text_chain bytes)) outcome

-- what a word on finite forests may give
abbrev pub MayGive : ForestWord → List ℕ → Outcome → Type 0
MayGive Flexible bytes outcome = MayGiveFlexible bytes outcome
MayGive (Greedy most) bytes outcome = MayGiveGreedy most bytes outcome

-- where the word answers Done, the last problem of the chain is solvable given few colours, and takes at most the order of log* N rounds
abbrev pub GreedyMeansLaw : Type 0
GreedyMeansLaw = (most : ℕ) (bytes : List ℕ) (outcome : Outcome) → MayGiveGreedy most bytes outcome → outcome.status ≡ Done →
    IsSolvableColoured (unnamed (last_problem (text_chain bytes))) × IsBelowLogStar (unnamed (last_problem (text_chain bytes)))
