-- The command `extract`: what it may answer, and what the command `table` says to its text.
use Rattle.std.proofs.Common.{◌≡◌, ℕ, ◌≤◌, Bool, true, false, List, [], ◌∷◌, length, codes, Option, Some, None, Result, Ok, Err, refl, sym, ap, ◌∙◌, subst, arith}
use Rattle.std.specs.Prelude.{if◌then◌else◌, nat_lt, IfOk}
use Rattle.std.proofs.lemmas.Bool.Decides.{nat_tests}
use Rattle.re_io.specs.declared.read.TheConstants.{MAX_BYTES}
use Rattle.re_problem.specs.NamedProblems.{NamedProblem, unnamed}
use Rattle.re_problem.specs.declared.fault.InputFault.{InputFault}
use Rattle.re_cert.specs.Bounds.{Bound}
use Rattle.re_cert.specs.CertificateTexts.{certificate_fault, certificate_of, text_lines}
use Rattle.re_cert.specs.declared.certificate.Kind.TheVariants.{Fixed, Lower, Upper}
use Rattle.re_check.specs.Verdicts.{verdict_of}
use Rattle.re_check.specs.declared.verdict.Verdict.{Verdict}
use Rattle.re_check.specs.declared.verdict.Verdict.TheVariants.{Accepted, Refused}
use Rattle.re_algo.specs.Tables.{AnswerTable}
use Rattle.re_algo.specs.Verdicts.{table_verdict}
use Rattle.re_algo.specs.declared.solving.TableVerdict.{TableVerdict}
use Rattle.re_algo.specs.declared.solving.TableVerdict.TheVariants.{Yes}
use Rattle.re_table_texts.specs.TableTexts.{table_input}
use Rattle.re_table_texts.specs.declared.table_texts.TableForm.TheVariants.{Plain}
use Rattle.re_extract.specs.UpperTables.{listed_table}
use Rattle.re_frame.proofs.Said.{fault_says}
use Rattle.re_words.specs.Command.{command_of, word_of}
use Rattle.re_words.specs.Extracting.{algorithm_outcome, extracted_from, extracting_outcome, if_read}
use Rattle.re_words.specs.Meaning.{DoneMeans}
use Rattle.re_frame.specs.Outcomes.{Outcome, done, outcome_of, status_of, too_long, within_limit}
use Rattle.re_words.specs.Output.{command_outcome, expected}
use Rattle.re_frame.specs.Runs.{MaySay}
use Rattle.re_words.specs.SaysYes.{TableSaysYes}
use Rattle.re_words.specs.Tabling.{or_fault, or_refusal, tabling_outcome}
use Rattle.re_words.specs.declared.command.Command.{Command}
use Rattle.re_words.specs.declared.command.Command.TheVariants.{Extracts, Streams, Tables}
use Rattle.re_words.specs.declared.command.Streaming.TheVariants.{Check}
use Rattle.re_frame.specs.declared.output.Output.{Output}
use Rattle.re_frame.specs.declared.status.Answer.{Answer}
use Rattle.re_frame.specs.declared.status.Answer.TheVariants as answer
use Rattle.re_frame.specs.declared.status.Status.{Status}
use Rattle.re_frame.specs.declared.status.Status.TheVariants as status

-- ---- what it may answer
algorithm_says : (problem : NamedProblem) (found : Option AnswerTable) → MaySay (algorithm_outcome problem found).status true
algorithm_says problem None = tt
algorithm_says problem (Some table) = tt

extracted_says : (bound : Bound) (verdict : Verdict) → MaySay (extracted_from bound verdict).status true
extracted_says bound (Accepted Upper steps) = algorithm_says bound.first (listed_table bound)
extracted_says bound (Accepted Lower steps) = refl
extracted_says bound (Accepted Fixed steps) = refl
extracted_says bound (Refused step clause) = refl

if_read_says : (fault : Option InputFault) (bound : Bound) → MaySay (if_read fault bound).status true
if_read_says (Some fault) bound = fault_says fault true
if_read_says None bound = extracted_says bound (verdict_of bound)

pub extracting_says : (bytes : List ℕ) → MaySay (extracting_outcome bytes).status true
unfolding extracting_outcome
extracting_says bytes = if_read_says (certificate_fault (text_lines bytes)) (certificate_of (text_lines bytes))

-- ---- the word
pub check_word : command_of (codes "check" ∷ []) ≡ Some (Streams Check)
unfolding command_of word_of
check_word = refl

extract_word : command_of (codes "extract" ∷ []) ≡ Some Extracts
unfolding command_of word_of
extract_word = refl

table_word : command_of (codes "table" ∷ []) ≡ Some (Tables Plain)
unfolding command_of word_of
table_word = refl

-- the word `check` names another command
pub extracts_mean : {E : Type 0} (words : List (List ℕ)) (left : Option (List ℕ)) (result : Result Output E) → Some Extracts ≡ command_of words
    → IfOk result (λ output. (bytes : List ℕ) → left ≡ Some bytes → DoneMeans words bytes (status_of output.answer))
extracts_mean words left (Ok output) is = λ bytes told check done. absurd (let no : Some Extracts ≡ Some (Streams Check) = is ∙ (ap command_of check ∙ check_word) in cc)
extracts_mean words left (Err fault) is = tt

pub same_command : (command other : Command) → ◌≡◌ {A = Option Command} (Some command) (Some other) → command ≡ other
same_command command other e = cc

-- the word `extract` names this command alone
pub not_extracts : (words : List (List ℕ)) (bytes : List ℕ) (result : Status) (command : Command) → Some command ≡ command_of words → (command ≡ Extracts → ⊥) → TableSaysYes words bytes result
not_extracts words bytes result command is other = λ word done few. absurd (other (same_command command Extracts (is ∙ (ap command_of word ∙ extract_word))))

pub others_say : {E : Type 0} (words : List (List ℕ)) (command : Command) (left : Option (List ℕ)) (result : Result Output E) → Some command ≡ command_of words → (command ≡ Extracts → ⊥)
    → IfOk result (λ output. (bytes : List ℕ) → left ≡ Some bytes → TableSaysYes words bytes (status_of output.answer))
others_say words command left (Ok output) is other = λ bytes told. not_extracts words bytes (status_of output.answer) command is other
others_say words command left (Err fault) is other = tt

pub none_says : (words : List (List ℕ)) (bytes : List ℕ) (result : Status) → ◌≡◌ {A = Option Command} None (command_of words) → TableSaysYes words bytes result
none_says words bytes result is = λ word done few. absurd (let no : ◌≡◌ {A = Option Command} None (Some Extracts) = is ∙ (ap command_of word ∙ extract_word) in cc)

-- ---- the command `table`
-- a text that is read as a problem and a table that solves it
pub printed_yes : (text : List ℕ) (problem : NamedProblem) (table : AnswerTable) → table_input Plain text ≡ Ok (record { problem = problem; next = None; table = table }) → table_verdict (unnamed problem) table ≡ Yes
    → tabling_outcome Plain text ≡ done (codes "yes\n")
unfolding tabling_outcome
printed_yes text problem table read verdict = ap (or_fault Plain) read ∙ ap (λ (v : TableVerdict). or_refusal v (done (codes "yes\n"))) verdict

pub answer_done : (given : Answer) → status_of given ≡ status.Done → given ≡ answer.Done
answer_done answer.Done e = refl
answer_done answer.No e = absurd (cc)
answer_done answer.BadWords e = absurd (cc)
answer_done answer.BadInput e = absurd (cc)
answer_done answer.Limit e = absurd (cc)

pub within : (text : List ℕ) (outcome : Outcome) → length text ≤ MAX_BYTES → within_limit (λ bytes. outcome) text ≡ outcome
unfolding within_limit
within text outcome few = go (nat_lt MAX_BYTES (length text)) refl
  where
    go : (b : Bool) → nat_lt MAX_BYTES (length text) ≡ b → (if b then too_long else outcome) ≡ outcome
    go true e = absurd (let much : nat_lt MAX_BYTES (length text) ≡ true = e in grind (arith, nat_tests))
    go false e = refl

table_says : (text : List ℕ) (outcome : Outcome) → length text ≤ MAX_BYTES → tabling_outcome Plain text ≡ outcome → expected (codes "table" ∷ []) text ≡ outcome
unfolding expected command_outcome within_limit
table_says text outcome few is =
    ap (λ (command : Option Command). command_outcome command text) table_word
    ∙ (ap (λ (o : Outcome). if nat_lt MAX_BYTES (length text) then too_long else o) is ∙ within text outcome few)

pub extracts_say : {E : Type 0} (words : List (List ℕ)) (left : Option (List ℕ)) (result : Result Output E) → Some Extracts ≡ command_of words
    → IfOk result (λ output. (bytes : List ℕ) → left ≡ Some bytes → outcome_of output ≡ within_limit extracting_outcome bytes)
    → IfOk result (λ output. output.answer ≡ answer.Done → tabling_outcome Plain output.text.items ≡ done (codes "yes\n"))
    → IfOk result (λ output. (bytes : List ℕ) → left ≡ Some bytes → TableSaysYes words bytes (status_of output.answer))
unfolding expected command_outcome
extracts_say words left (Ok output) is outcome agrees = λ bytes told word done few.
    let here : expected words bytes ≡ outcome_of output = ap (λ (command : Option Command). command_outcome command bytes) (sym is) ∙ sym (outcome bytes told) in
    let text : (expected words bytes).text ≡ output.text.items = ap (λ (o : Outcome). o.text) here in
    ap (λ t. expected (codes "table" ∷ []) t) text
    ∙ table_says output.text.items _ (subst (λ t. length t ≤ MAX_BYTES) text few) (agrees (answer_done output.answer done))
extracts_say words left (Err fault) is outcome agrees = tt
