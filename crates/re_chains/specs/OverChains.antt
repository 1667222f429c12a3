-- What a word gives to a text, by what it gives to the chain of the text.
use Rattle.std.specs.Prelude.{◌≡◌, ◌≤◌, ℕ, length, Bool, true, false, List, Option, Some, None, Result, Ok, Err, option_map}
use Rattle.re_problem.specs.CanonicalTexts.{canonical}
use Rattle.re_problem.specs.NamedProblems.{NamedProblem}
use Rattle.re_problem.specs.declared.fault.InputFault.{InputFault}
use Rattle.re_cert.specs.Bounds.{Bound}
use Rattle.re_cert.specs.CertificateTexts.{certificate_fault, certificate_of, text_lines}
use Rattle.re_texts.specs.PrintedCertificates.{certificate_text}
use Rattle.re_check.specs.Verdicts.{steps_fault}
use Rattle.re_check.specs.declared.verdict.ClauseFault.{ClauseFault}
use Rattle.re_check.specs.declared.verdict.Verdict.{Verdict}
use Rattle.re_check.specs.declared.verdict.Verdict.TheVariants.{Refused}
use Rattle.re_frame.specs.Check.{verdict_outcome}
use Rattle.re_frame.specs.Outcomes.{Outcome, done, outcome_of, status_of, within_limit}
use Rattle.re_frame.specs.Runs.{MaySay}
use Rattle.re_frame.specs.TextFaults.{fault_outcome}
use Rattle.re_frame.specs.declared.output.Output.{Output}
use Rattle.re_frame.specs.declared.status.Status.TheVariants.{Done}
use Rattle.re_io.specs.declared.read.TheConstants.{MAX_BYTES}
use Rattle.re_chains.specs.Chains.{IsSoundChain}
use Rattle.re_chains.specs.HeldBounds.{held_bound}
use Rattle.re_chains.specs.declared.chains.Chain.{Chain}
use Rattle.re_chains.specs.ChainTexts.{chain_fault, text_chain}
use Rattle.re_chains.specs.declared.over_chains.ChainRead.{ChainRead}
use Rattle.re_chains.specs.declared.over_chains.ChainRead.TheVariants as read
use Rattle.re_chains.specs.declared.over_chains.StepsRead.{StepsRead}
use Rattle.re_chains.specs.declared.over_chains.StepsRead.TheVariants as steps

-- ---- what a word gives
-- the verdict of `check` on a step that fails
abbrev pub refusal_of : ClauseFault → Verdict
refusal_of fault = Refused fault.step fault.clause

-- that on the first step that fails, if any: END and BACK aren't asked for
abbrev pub steps_refusal : Bound → Option Verdict
steps_refusal bound = option_map refusal_of (steps_fault bound.first 1 bound.steps)

-- the line of a fault, and where there is none the other outcome
abbrev pub or_fault : Option InputFault → Outcome → Outcome
or_fault (Some fault) outcome = fault_outcome fault
or_fault None outcome = outcome

-- the line of a verdict, and where there is none the other outcome
abbrev pub or_refusal : Option Verdict → Outcome → Outcome
or_refusal (Some verdict) outcome = verdict_outcome verdict
or_refusal None outcome = outcome

-- what a word gives that takes any chain: the line of the fault of the text, or else what it gives to the chain
unfoldable pub over_any : (Bound → Outcome) → List ℕ → Outcome
over_any outcome bytes = or_fault (chain_fault bytes) (outcome (text_chain bytes))

-- what a word gives that takes sound chains: the line of the fault of the text, or that of `check` for the first step that fails, or
-- else what it gives to the chain
unfoldable pub over_sound : (Bound → Outcome) → List ℕ → Outcome
over_sound outcome bytes = over_any (λ chain. or_refusal (steps_refusal chain) (outcome chain)) bytes

-- ---- what is read for a word
-- the output is what each word gives that takes this up, isn't Done, and is No only to one that judges
pub record IsAnswered (given : (Bound → Outcome) → Outcome) (judging : Bool) (output : Output) : Type 0 where
  pub outcome : (word : Bound → Outcome) → outcome_of output ≡ given word
  pub not_done : status_of output.answer ≡ Done → ⊥
  pub says : MaySay (status_of output.answer) judging

-- the chain of the text, and what each word gives is what it gives to this chain; or the output that each word gives
abbrev pub ReadsAny : List ℕ → StepsRead → Type 0
ReadsAny bytes (steps.Steps chain) = (chain ≡ text_chain bytes) × ((word : Bound → Outcome) → over_any word bytes ≡ word chain)
ReadsAny bytes (steps.Answered output) = IsAnswered (λ word. over_any word bytes) false output

-- the same of words that take sound chains
abbrev pub ReadsSound : List ℕ → ChainRead → Type 0
ReadsSound bytes (read.Chain chain) = (held_bound chain ≡ text_chain bytes) × ((word : Bound → Outcome) → over_sound word bytes ≡ word (held_bound chain))
ReadsSound bytes (read.Answered output) = IsAnswered (λ word. over_sound word bytes) true output

-- steps that were judged: their chain where none fails, and else the verdict on the first that does
abbrev pub IsJudged : Bound → Result Chain Verdict → Type 0
IsJudged given (Ok chain) = (held_bound chain ≡ given) × (steps_refusal given ≡ None)
IsJudged given (Err verdict) = steps_refusal given ≡ Some verdict

-- the chain, or the output that is the line of `check`
abbrev pub Judges : Bound → ChainRead → Type 0
Judges given (read.Chain chain) = (held_bound chain ≡ given) × (steps_refusal given ≡ None)
Judges given (read.Answered output) = IsAnswered (λ word. or_refusal (steps_refusal given) (word given)) true output

-- ---- certificates as answers
-- the text of the certificate, where it is no longer than a text that is read may be
abbrev pub certificate_outcome : Bound → Outcome
certificate_outcome bound = within_limit done (certificate_text bound)

-- ---- problems as answers
-- the canonical text of the problem, where it is no longer than a text that is read may be
abbrev pub problem_outcome : NamedProblem → Outcome
problem_outcome problem = within_limit done (canonical problem)

-- ---- what texts are worth
-- the text is no longer than a text that is read may be, has no fault, and is read as this certificate
pub record IsTextOf (bound : Bound) (text : List ℕ) : Type 0 where
  pub short : length text ≤ MAX_BYTES
  pub right : certificate_fault (text_lines text) ≡ None
  pub read : certificate_of (text_lines text) ≡ bound

-- and the certificate is a sound chain
pub record IsSoundText (chain : Bound) (text : List ℕ) : Type 0 where
  pub text_of : IsTextOf chain text
  pub sound : IsSoundChain chain

-- where the outcome is Done, its text is read as this certificate
abbrev pub GivesText : Bound → Outcome → Type 0
GivesText bound outcome = outcome.status ≡ Done → IsTextOf bound outcome.text

-- and as one that is a sound chain
abbrev pub GivesSound : Bound → Outcome → Type 0
GivesSound chain outcome = outcome.status ≡ Done → IsSoundText chain outcome.text
