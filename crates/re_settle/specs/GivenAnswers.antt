-- What the word `settle` may answer to a problem and an input problem, or to a problem.
use Rattle.std.specs.Prelude.{◌≡◌, ℕ, ◌⊎◌, Bool, true, false, List, ◌++◌, codes, if◌then◌else◌, Option, None, Some}
use Rattle.std.specs.Fmt.{decimal}
use Rattle.re_settings.specs.InputProblems.{input_fault}
use Rattle.re_settings.specs.declared.inputs.InputFault.{InputFault as Fault}
use Rattle.re_frame.specs.Outcomes.{Outcome, done, refused}
use Rattle.re_frame.specs.TextFaults.{fault_outcome}
use Rattle.re_given_words.specs.Counting.{walk_after}
use Rattle.re_settings.specs.GivenTexts.{given_fault, given_input, given_problem}
use Rattle.re_settings.specs.InputFaults.{fault_line}
use Rattle.re_settings.specs.Walks.{tries_outcome}
use Rattle.re_problem.specs.NamedProblems.{NamedProblem, unnamed}
use Rattle.re_problem.specs.declared.fault.InputFault.{InputFault}
use Rattle.re_settle.specs.Answers.{MayGive}
use Rattle.re_evidence.specs.Claims.{is_final}
use Rattle.re_evidence.specs.Lines.{claim_text}
use Rattle.re_settle.specs.Lines.{note_line, way_line}
use Rattle.re_evidence.specs.declared.types.Claim.{Claim}
use Rattle.re_evidence.specs.declared.types.Claim.TheVariants.{Never}
use Rattle.re_settle.specs.declared.words.SettleWord.{SettleWord}
use Rattle.re_settle.specs.GivenClaims.{claim_given}
use Rattle.re_settle.specs.GivenWays.{IsSettledGiven}
use Rattle.re_settle.specs.declared.given_types.SettledGiven.{SettledGiven}
use Rattle.re_settle.specs.declared.given_types.SettledGiven.TheVariants as settled
use Rattle.re_chains.specs.TwoTexts.{has_line}
use Rattle.re_walks.specs.Walking.{cut}

-- ---- lines
-- that one round more than so many is of no use
abbrev pub law_line : ℕ → ℕ → List ℕ
law_line rounds shown = codes "law: " ++ (decimal rounds ++ (codes " hops do no more than " ++ (decimal shown ++ codes " given that input\n")))

-- a line for each of the words that show what is known, and one for the law that says one round more
abbrev pub given_lines : List (List ℕ) → SettledGiven → List ℕ
given_lines names (settled.Exactly shown) = way_line names shown.way
given_lines names (settled.Never way) = way_line names way
given_lines names (settled.Within more None) = way_line names more.way
given_lines names (settled.Within more (Some most)) = way_line names more.way ++ way_line names most.way
given_lines names (settled.Beyond rounds shown None) = way_line names shown.way ++ law_line rounds shown.rounds
given_lines names (settled.Beyond rounds shown (Some most)) = way_line names shown.way ++ (way_line names most.way ++ law_line rounds shown.rounds)
given_lines names (settled.AtMost most) = way_line names most.way

-- what algorithms have besides, behind a claim: that input
abbrev pub given_text_of : Claim → List ℕ
given_text_of Never = codes "and that input alone\n"
given_text_of claim = codes " given that input\n"

-- the claim on a problem, those lines, and the labels that trimming takes away
abbrev pub settled_given_text : NamedProblem → SettledGiven → List ℕ
settled_given_text problem settled =
    claim_text problem.passive.degree (claim_given settled) ++ (given_text_of (claim_given settled) ++ (given_lines problem.names settled ++ note_line problem))

-- they come with Done where the claim leaves no question, and else with No
abbrev pub settled_given_outcome : NamedProblem → SettledGiven → Outcome
settled_given_outcome problem settled =
    if is_final (claim_given settled) then done (settled_given_text problem settled) else refused (settled_given_text problem settled)

-- ---- the answer to a problem and an input problem
-- the lines of something that is known of the problem given the input problem, where bounds are taken so many times: shown by the words that they name, and true
pub record IsGivenAnswer (times : ℕ) (problem input : NamedProblem) (outcome : Outcome) : Type 0 where
  pub settled : SettledGiven
  pub lines : outcome ≡ settled_given_outcome problem settled
  pub known : IsSettledGiven times problem input settled

-- that the tries of the walk don't suffice to tell whether 0 rounds are enough
pub record IsUntold (problem input : NamedProblem) (outcome : Outcome) : Type 0 where
  pub line : outcome ≡ tries_outcome
  pub untold : walk_after (unnamed problem) (unnamed input) 0 ≡ cut

-- the line of the fault of the input problem comes before
abbrev pub MayGiveBeside : Option Fault → ℕ → NamedProblem → NamedProblem → Outcome → Type 0
MayGiveBeside (Some fault) times problem input outcome = outcome ≡ refused (fault_line input fault)
MayGiveBeside None times problem input outcome = IsGivenAnswer times problem input outcome ⊎ IsUntold problem input outcome

-- and that of the first fault of the text
abbrev pub MayGiveGivenRead : Option InputFault → ℕ → NamedProblem → NamedProblem → Outcome → Type 0
MayGiveGivenRead (Some fault) times problem input outcome = outcome ≡ fault_outcome fault
MayGiveGivenRead None times problem input outcome = MayGiveBeside (input_fault problem input) times problem input outcome

-- what may be given to a text with a line `== given`
abbrev pub MayGiveGiven : ℕ → List ℕ → Outcome → Type 0
MayGiveGiven times bytes outcome = MayGiveGivenRead (given_fault bytes) times (given_problem bytes) (given_input bytes) outcome

-- ---- the word
abbrev pub MaySettleBy : Bool → SettleWord → List ℕ → Outcome → Type 0
MaySettleBy true word bytes outcome = MayGiveGiven word.times bytes outcome
MaySettleBy false word bytes outcome = MayGive word bytes outcome

-- what the word may give to a text: with a line `== given` what is known given an input problem, and else what is known of a problem
unfoldable pub MaySettle : SettleWord → List ℕ → Outcome → Type 0
MaySettle word bytes outcome = MaySettleBy (has_line (codes "given") bytes) word bytes outcome
