-- What is read of a text for a word, and what words give.
use Rattle.std.proofs.Common.{◌≡◌, ℕ, Bool, true, false, List, Option, Some, None, refl, sym, ap, ◌∙◌, subst}
use Rattle.std.specs.Prelude.{Err, IfOk, Ok, Result, if◌then◌else◌, length, nat_lt, option_map}
use Rattle.re_problem.specs.CanonicalTexts.{canonical}
use Rattle.re_problem.specs.NamedProblems.{NamedProblem}
use Rattle.re_problem.specs.declared.fault.InputFault.{InputFault}
use Rattle.re_problem.specs.declared.fault.InputFault.TheVariants as input
use Rattle.re_cert.specs.Bounds.{Bound}
use Rattle.re_cert.specs.CertificateTexts.{certificate_of, text_lines}
use Rattle.re_check.specs.Verdicts.{verdict_of}
use Rattle.re_check.specs.declared.verdict.ClauseFault.{ClauseFault}
use Rattle.re_check.specs.declared.verdict.Verdict.{Verdict}
use Rattle.re_frame.proofs.Said.{check_says, fault_says, said}
use Rattle.re_texts.specs.PrintedCertificates.{certificate_text}
use Rattle.re_frame.specs.Check.{check_outcome, judged, verdict_outcome}
use Rattle.re_frame.specs.Outcomes.{Outcome, done, outcome_of, status_of, too_long, within_limit}
use Rattle.re_frame.specs.Runs.{MaySay}
use Rattle.re_frame.specs.TextFaults.{fault_outcome, fault_status}
use Rattle.re_frame.specs.declared.output.Output.{Output}
use Rattle.re_frame.specs.declared.status.Status.{Status}
use Rattle.re_frame.specs.declared.status.Status.TheVariants as status
use Rattle.re_io.specs.declared.read.TheConstants.{MAX_BYTES}
use Rattle.re_chains.specs.Chains.{IsSoundChain}
use Rattle.re_chains.specs.ChainTexts.{chain_fault, text_chain}
use Rattle.re_chains.specs.OverChains.{GivesSound, GivesText, IsAnswered, IsTextOf, Judges, ReadsSound, certificate_outcome, or_fault, or_refusal, over_any, over_sound, problem_outcome, refusal_of, steps_refusal}
use Rattle.re_chains.specs.declared.over_chains.ChainRead.{ChainRead}
use Rattle.re_chains.specs.declared.over_chains.ChainRead.TheVariants as read

-- ---- faults and refusals aren't Done
pub fault_not_done : (fault : InputFault) → fault_status fault ≡ status.Done → ⊥
fault_not_done (input.BadByte at) e = cc
fault_not_done (input.BadItem line) e = cc
fault_not_done (input.WrongDegree line) e = cc
fault_not_done (input.MissingBlock line) e = cc
fault_not_done (input.ExtraBlock line) e = cc
fault_not_done (input.DegreeOutOfRange degree) e = cc
fault_not_done (input.TooManyLabels line) e = cc
fault_not_done (input.TooManyConfigurations line) e = cc
fault_not_done (input.BadSection line) e = cc
fault_not_done (input.BadEntry line) e = cc
fault_not_done (input.BadBack line) e = cc
fault_not_done (input.TooManySteps line) e = cc
fault_not_done (input.TooManyRows line) e = cc
fault_not_done (input.TooManyViews line) e = cc
fault_not_done (input.TooManyNodes line) e = cc
fault_not_done input.EarlyEnd e = cc

-- an output whose outcome isn't Done
pub not_done : (output : Output) (outcome : Outcome) → outcome_of output ≡ outcome → (outcome.status ≡ status.Done → ⊥) → status_of output.answer ≡ status.Done → ⊥
not_done output outcome is other done = other (sym (ap (λ (o : Outcome). o.status) is) ∙ done)

-- ---- the reading of a text
any_fault : (bytes : List ℕ) (fault : InputFault) → chain_fault bytes ≡ Some fault → (word : Bound → Outcome) → fault_outcome fault ≡ over_any word bytes
unfolding over_any
any_fault bytes fault is word = ap (λ first. or_fault first (word (text_chain bytes))) (sym is)

pub any_chain : (bytes : List ℕ) (chain : Bound) → chain_fault bytes ≡ None → chain ≡ text_chain bytes → (word : Bound → Outcome) → over_any word bytes ≡ word chain
unfolding over_any
any_chain bytes chain none is word = ap (λ first. or_fault first (word (text_chain bytes))) none ∙ ap word (sym is)

pub answered_fault : (bytes : List ℕ) (fault : InputFault) (output : Output) → chain_fault bytes ≡ Some fault → outcome_of output ≡ fault_outcome fault → IsAnswered (λ word. over_any word bytes) false output
answered_fault bytes fault output is line = record {
  outcome = λ word. line ∙ any_fault bytes fault is word;
  not_done = not_done output (fault_outcome fault) line (fault_not_done fault);
  says = said output (fault_outcome fault) false line (fault_says fault false);
}

-- ---- the judging of a chain
pub none_fails : (fault : Option ClauseFault) → option_map refusal_of fault ≡ None → fault ≡ None
none_fails None e = refl
none_fails (Some fault) e = absurd (cc)

-- ---- both
sound_is : (word : Bound → Outcome) (bytes : List ℕ) → over_sound word bytes ≡ over_any (λ chain. or_refusal (steps_refusal chain) (word chain)) bytes
unfolding over_sound
sound_is word bytes = refl

says_more : (said : Status) → MaySay said false → MaySay said true
says_more status.Done says = tt
says_more status.No says = refl
says_more status.BadWords says = says
says_more status.BadInput says = tt
says_more status.Limit says = tt
says_more status.ReadFault says = tt
says_more status.WriteFault says = tt
says_more status.NoMemory says = tt

pub answered_any : (bytes : List ℕ) (output : Output) → IsAnswered (λ word. over_any word bytes) false output → IsAnswered (λ word. over_sound word bytes) true output
answered_any bytes output is = record {
  outcome = λ word. is.outcome (λ chain. or_refusal (steps_refusal chain) (word chain)) ∙ sym (sound_is word bytes);
  not_done = is.not_done;
  says = says_more (status_of output.answer) is.says;
}

pub judged_read : (bytes : List ℕ) (given : Bound) (read : ChainRead) → given ≡ text_chain bytes → ((word : Bound → Outcome) → over_any word bytes ≡ word given) → Judges given read
    → ReadsSound bytes read
judged_read bytes given (read.Chain chain) of_text any is =
    (is.0 ∙ of_text, λ word. sound_is word bytes ∙ any (λ c. or_refusal (steps_refusal c) (word c)) ∙ ap (λ refusal. or_refusal refusal (word given)) is.1 ∙ ap word (sym is.0))
judged_read bytes given (read.Answered output) of_text any is = record {
  outcome = λ word. is.outcome word ∙ sym (any (λ c. or_refusal (steps_refusal c) (word c))) ∙ sym (sound_is word bytes);
  not_done = is.not_done;
  says = is.says;
}

-- ---- what words may say
pub or_fault_says : (first : Option InputFault) (outcome : Outcome) (judging : Bool) → MaySay outcome.status judging → MaySay (or_fault first outcome).status judging
or_fault_says (Some fault) outcome judging says = fault_says fault judging
or_fault_says None outcome judging says = says

or_refusal_says : (refusal : Option Verdict) (outcome : Outcome) → MaySay outcome.status true → MaySay (or_refusal refusal outcome).status true
or_refusal_says (Some verdict) outcome says = check_says verdict
or_refusal_says None outcome says = says

pub over_any_says : (word : Bound → Outcome) (bytes : List ℕ) (judging : Bool) → ((chain : Bound) → MaySay (word chain).status judging) → MaySay (over_any word bytes).status judging
unfolding over_any
over_any_says word bytes judging says = or_fault_says (chain_fault bytes) (word (text_chain bytes)) judging (says (text_chain bytes))

pub over_sound_says : (word : Bound → Outcome) (bytes : List ℕ) → ((chain : Bound) → MaySay (word chain).status true) → MaySay (over_sound word bytes).status true
unfolding over_sound
over_sound_says word bytes says =
    over_any_says (λ chain. or_refusal (steps_refusal chain) (word chain)) bytes true (λ chain. or_refusal_says (steps_refusal chain) (word chain) (says chain))

-- ---- the text of a certificate
limited_says : (over : Bool) (text : List ℕ) (judging : Bool) → MaySay (if over then too_long else done text).status judging
limited_says true text judging = tt
limited_says false text judging = tt

pub certificate_says : (bound : Bound) (judging : Bool) → MaySay (certificate_outcome bound).status judging
unfolding within_limit
certificate_says bound judging = limited_says (nat_lt MAX_BYTES (length (certificate_text bound))) (certificate_text bound) judging

pub problem_says : (problem : NamedProblem) (judging : Bool) → MaySay (problem_outcome problem).status judging
unfolding within_limit
problem_says problem judging = limited_says (nat_lt MAX_BYTES (length (canonical problem))) (canonical problem) judging

-- `check` gives the verdict on the certificate as which a text is read
pub text_checked : (bound : Bound) (text : List ℕ) → IsTextOf bound text → check_outcome text ≡ verdict_outcome (verdict_of bound)
unfolding check_outcome
text_checked bound text is = ap (λ fault. judged fault (certificate_of (text_lines text))) is.right ∙ ap (λ (b : Bound). verdict_outcome (verdict_of b)) is.read

-- ---- what is known of a text that is given
-- the text of a sound chain
pub sound_given : (bound made chain : Bound) (outcome : Outcome) → bound ≡ made → made ≡ chain → IsSoundChain made → GivesText bound outcome → GivesSound chain outcome
sound_given bound made chain outcome same is sound gives finished = record {
  text_of = subst (λ b. IsTextOf b outcome.text) (same ∙ is) (gives finished);
  sound = subst IsSoundChain is sound;
}

-- ---- what is known of a call
pub both_ok : {A E : Type 0} (P Q R : A → Type 0) (r : Result A E) → IfOk r P → IfOk r Q → ((x : A) → P x → Q x → R x) → IfOk r R
both_ok P Q R (Ok x) p q make = make x p q
both_ok P Q R (Err fault) p q make = tt
