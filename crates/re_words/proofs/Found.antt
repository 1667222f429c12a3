-- The searches: the word `check` accepts what they find.
use Rattle.std.proofs.Common.{◌≡◌, ℕ, ◌≤◌, List, [], ◌∷◌, length, codes, Option, Some, None, Result, Ok, Err, sym, ap, ◌∙◌, subst}
use Rattle.std.specs.Prelude.{IfOk}
use Rattle.re_io.specs.declared.read.TheConstants.{MAX_BYTES}
use Rattle.re_cert.specs.Bounds.{Bound}
use Rattle.re_cert.specs.CertificateTexts.{certificate_fault, certificate_of, text_lines}
use Rattle.re_cert.specs.declared.certificate.Kind.{Kind}
use Rattle.re_check.specs.Verdicts.{verdict_of}
use Rattle.re_check.specs.declared.verdict.Verdict.TheVariants.{Accepted}
use Rattle.re_search.specs.Searches.{HasSteps}
use Rattle.re_words.proofs.Extracts.{answer_done, check_word, same_command, within}
use Rattle.re_frame.specs.Check.{check_outcome, judged, verdict_outcome}
use Rattle.re_words.specs.Command.{command_of}
use Rattle.re_words.specs.Found.{Accepts, FoundIsAccepted, SearchIsAccepted}
use Rattle.re_frame.specs.Outcomes.{Outcome, outcome_of, status_of, within_limit}
use Rattle.re_words.specs.Output.{command_outcome, expected, streaming_outcome}
use Rattle.re_words.specs.Reading.{reading_outcome}
use Rattle.re_words.specs.declared.command.Command.{Command}
use Rattle.re_words.specs.declared.command.Command.TheVariants.{Reads}
use Rattle.re_words.specs.declared.command.Reading.{Reading}
use Rattle.re_words.specs.declared.command.Reading.TheVariants.{Search}
use Rattle.re_frame.specs.declared.output.Output.{Output}
use Rattle.re_frame.specs.declared.status.Answer.TheVariants as answer
use Rattle.re_frame.specs.declared.status.Status.{Status}

-- ---- other commands
-- only the words of a search name a search
pub not_a_search : (words : List (List ℕ)) (bytes : List ℕ) (result : Status) (command : Command) → Some command ≡ command_of words → ((reading : Reading) → command ≡ Reads reading → ⊥) → FoundIsAccepted words bytes result
not_a_search words bytes result command is other = λ kind most changes word done few. absurd (other (Search kind most changes) (same_command command (Reads (Search kind most changes)) (is ∙ word)))

pub others_find : {E : Type 0} (words : List (List ℕ)) (command : Command) (left : Option (List ℕ)) (result : Result Output E) → Some command ≡ command_of words → ((reading : Reading) → command ≡ Reads reading → ⊥)
    → IfOk result (λ output. (bytes : List ℕ) → left ≡ Some bytes → FoundIsAccepted words bytes (status_of output.answer))
others_find words command left (Ok output) is other = λ bytes told. not_a_search words bytes (status_of output.answer) command is other
others_find words command left (Err fault) is other = tt

pub none_finds : (words : List (List ℕ)) (bytes : List ℕ) (result : Status) → ◌≡◌ {A = Option Command} None (command_of words) → FoundIsAccepted words bytes result
none_finds words bytes result is = λ kind most changes word done few. absurd (let no : ◌≡◌ {A = Option Command} None (Some (Reads (Search kind most changes))) = is ∙ word in cc)

-- ---- the command `check`
check_gives : (text : List ℕ) → length text ≤ MAX_BYTES → expected (codes "check" ∷ []) text ≡ check_outcome text
unfolding expected command_outcome streaming_outcome within_limit
check_gives text few = ap (λ (command : Option Command). command_outcome command text) check_word ∙ within text (check_outcome text) few

same_reading : (reading other : Reading) → ◌≡◌ {A = Option Command} (Some (Reads reading)) (Some (Reads other)) → reading ≡ other
same_reading reading other e = cc

pub searches_find : {E : Type 0} (words : List (List ℕ)) (reading : Reading) (left : Option (List ℕ)) (result : Result Output E) → Some (Reads reading) ≡ command_of words
    → IfOk result (λ output. (bytes : List ℕ) → left ≡ Some bytes → outcome_of output ≡ within_limit (reading_outcome reading) bytes)
    → IfOk result (λ output. output.answer ≡ answer.Done → SearchIsAccepted reading output.text.items)
    → IfOk result (λ output. (bytes : List ℕ) → left ≡ Some bytes → FoundIsAccepted words bytes (status_of output.answer))
unfolding expected command_outcome
searches_find words reading left (Ok output) is outcome agrees = λ bytes told kind most changes word done few.
    let same : reading ≡ Search kind most changes = same_reading reading (Search kind most changes) (is ∙ word) in
    let here : expected words bytes ≡ outcome_of output = ap (λ (command : Option Command). command_outcome command bytes) (sym is) ∙ sym (outcome bytes told) in
    let text : (expected words bytes).text ≡ output.text.items = ap (λ (o : Outcome). o.text) here in
    let found : Accepts kind most (check_outcome output.text.items) = subst (λ r. SearchIsAccepted r output.text.items) same (agrees (answer_done output.answer done)) in
    let same_text : expected (codes "check" ∷ []) (expected words bytes).text ≡ check_outcome output.text.items =
    ap (λ t. expected (codes "check" ∷ []) t) text ∙ check_gives output.text.items (subst (λ t. length t ≤ MAX_BYTES) text few) in
    subst (Accepts kind most) (sym same_text) found
searches_find words reading left (Err fault) is outcome agrees = tt

-- ---- the text that a search prints
-- it is read as the certificate that is found, so it is accepted
pub text_accepted : (kind : Kind) (most : ℕ) (bound : Bound) (text : List ℕ) → HasSteps kind most (length bound.steps) → verdict_of bound ≡ Accepted kind (length bound.steps)
    → certificate_fault (text_lines text) ≡ None → certificate_of (text_lines text) ≡ bound → Accepts kind most (check_outcome text)
unfolding check_outcome
text_accepted kind most bound text many valid right read = (
  length bound.steps,
  many,
  ap (λ fault. judged fault (certificate_of (text_lines text))) right ∙ ap (λ (b : Bound). verdict_outcome (verdict_of b)) read ∙ ap verdict_outcome valid,
)
