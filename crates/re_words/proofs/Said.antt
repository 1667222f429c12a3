-- What each command may answer, whatever bytes it reads.
use Rattle.std.proofs.Common.{◌≡◌, ℕ, zero, suc, ◌+◌, ◌-◌, Bool, true, false, List, Option, Some, None, Result, Ok, Err, refl, sym, ap, ◌∙◌, subst, []}
use Rattle.std.specs.Prelude.{if◌then◌else◌, codes, nat_lt, length, unwrap_or, IfOk, IsTrue}
use Rattle.re_check.specs.Verdicts.{verdict_of}
use Rattle.re_cert.specs.declared.certificate.Kind.TheVariants.{Lower, Upper, Fixed}
use Rattle.re_check.specs.declared.verdict.Verdict.{Verdict}
use Rattle.re_check.specs.declared.verdict.Verdict.TheVariants.{Accepted, Refused}
use Rattle.re_labels.specs.declared.TheConstants.{MAX_ROWS}
use Rattle.re_families.specs.Families.{family_of}
use Rattle.re_families.specs.declared.types.Family.TheVariants.{Colouring}
use Rattle.re_labels.specs.declared.sides.Side.TheVariants as side
use Rattle.re_texts.specs.Entries.{source}
use Rattle.re_texts.specs.MapTexts.{MapText, map_text}
use Rattle.re_problem.specs.declared.verdict.MapVerdict.{MapVerdict}
use Rattle.re_problem.specs.declared.verdict.MapVerdict.TheVariants as verdict
use Rattle.re_texts.specs.SetTexts.{rows_text}
use Rattle.re_problem.specs.NamedProblems.{NamedProblem, unnamed}
use Rattle.re_problem.specs.ProblemTexts.{first_fault, lines_of, problem_of}
use Rattle.re_problem.specs.Zero.{zero_place}
use Rattle.re_problem.specs.declared.fault.InputFault.{InputFault}
use Rattle.re_net.specs.RunTexts.{RunText, run_text}
use Rattle.re_net.specs.Runs.{first_illegal}
use Rattle.re_search.specs.Counting.{rounds_of}
use Rattle.re_search.specs.OneStep.{one_step_bound}
use Rattle.re_search.specs.Searches.{search_of}
use Rattle.re_search.specs.declared.types.FindFault.{FindFault}
use Rattle.re_search.specs.declared.types.Rounds.{Rounds}
use Rattle.re_search.specs.declared.types.Search.{Search}
use Rattle.re_search.specs.declared.types.Search.TheVariants.{Found, NotFound}
use Rattle.re_step.specs.Derivations.{named_derived, step_limit}
use Rattle.re_step.specs.declared.derivation.StepLimit.{StepLimit}
use Rattle.re_labels.specs.GoodRows.{max_rows}
use Rattle.re_frame.specs.Check.{verdict_outcome}
use Rattle.re_words.specs.Command.{command_of, is_judging, judges}
use Rattle.re_words.specs.Counting.{counted, rounds_outcome}
use Rattle.re_words.specs.Making.{behind, making_outcome, one_step_outcome, sizes_text}
use Rattle.re_words.specs.Mapping.{kind_of, map_outcome, mapped, mapping_outcome, text_verdict}
use Rattle.re_frame.specs.Outcomes.{Outcome, done, limit_of, outcome_of, refused, status_of}
use Rattle.re_words.specs.Output.{bad_words}
use Rattle.re_words.specs.Reading.{fit_outcome, problem_outcome, read_outcome, reading_outcome}
use Rattle.re_words.specs.Run.{Says}
use Rattle.re_frame.specs.Runs.{MaySay}
use Rattle.re_words.specs.Running.{delivered, running_outcome, verified, written}
use Rattle.re_words.specs.Searching.{search_outcome, searched}
use Rattle.re_algo.specs.Constructions.{faster_table, slower_table}
use Rattle.re_algo.specs.Verdicts.{table_verdict}
use Rattle.re_algo.specs.declared.solving.TableVerdict.{TableVerdict}
use Rattle.re_algo.specs.declared.solving.TableVerdict.TheVariants as table
use Rattle.re_algo.specs.Counting.{view_count}
use Rattle.re_table_texts.specs.PrintedTables.{table_text}
use Rattle.re_table_texts.specs.TableTexts.{TableText, table_input}
use Rattle.re_table_texts.specs.declared.table_texts.TableForm.{TableForm}
use Rattle.re_table_texts.specs.declared.table_texts.TableForm.TheVariants as form
use Rattle.re_words.specs.Tabling.{behind_next, if_counted, or_fault, or_refusal, same_problems, slower_outcome, tabled, tabling_outcome}
use Rattle.re_words.specs.Working.{derived_text, diagram_outcome, merge_outcome, step_outcome, stepped, trim_outcome, universal_outcome}
use Rattle.re_limits.specs.StepLimits.{or_limit}
use Rattle.re_words.specs.declared.command.Command.{Command}
use Rattle.re_words.specs.declared.command.Command.TheVariants.{Makes, Reads}
use Rattle.re_words.specs.declared.command.Making.{Making}
use Rattle.re_words.specs.declared.command.Making.TheVariants as making
use Rattle.re_words.specs.declared.command.Mapping.{Mapping}
use Rattle.re_words.specs.declared.command.Reading.{Reading}
use Rattle.re_words.specs.declared.command.Reading.TheVariants as reading
use Rattle.re_frame.specs.declared.output.Output.{Output}
use Rattle.re_frame.specs.declared.status.Status.{Status}
use Rattle.re_frame.specs.declared.status.Status.TheVariants.{BadWords, No}
use Rattle.re_frame.proofs.Said.{fault_says}
use Rattle.re_limits.proofs.Passed.{passed}

-- ---- the commands that read a problem
chosen : (b : Bool) (x y : Outcome) (judging : Bool) → MaySay x.status judging → MaySay y.status judging → MaySay (if b then x else y).status judging
chosen true x y judging p q = p
chosen false x y judging p q = q

stepped_says : (number further : ℕ) (problem : NamedProblem) (judging : Bool) → MaySay (stepped number further problem).status judging
unfolding stepped
stepped_says number zero problem judging = passed number (step_limit (unnamed problem)) (done (derived_text problem)) judging tt
stepped_says number (suc further) problem judging =
    passed number (step_limit (unnamed problem)) (stepped (number + 1) further (named_derived (unnamed problem))) judging (stepped_says (number + 1) further (named_derived (unnamed problem)) judging)

fit_says : (problem : NamedProblem) (place : Option ℕ) → MaySay (fit_outcome problem place).status true
fit_says problem None = refl
fit_says problem (Some place) = tt

counted_says : (answer : Result Rounds (ℕ × StepLimit)) (judging : Bool) → MaySay (counted answer).status judging
counted_says (Ok answer) judging = tt
counted_says (Err fault) judging = tt

searched_says : (answer : Result Search FindFault) → MaySay (searched answer).status true
searched_says (Ok (Found bound)) = tt
searched_says (Ok (NotFound nodes cut)) = refl
searched_says (Err fault) = tt

universal_says : (problem : NamedProblem) (judging : Bool) → MaySay (universal_outcome problem).status judging
unfolding universal_outcome
universal_says problem judging =
    let rows = max_rows problem.passive (length problem.names) in
    chosen (nat_lt MAX_ROWS (length rows)) (limit_of MAX_ROWS (codes "rows")) (done (rows_text problem.names rows)) judging tt tt

problem_says : (command : Reading) (problem : NamedProblem) → MaySay (problem_outcome command problem).status (judges (Reads command))
unfolding diagram_outcome merge_outcome trim_outcome step_outcome rounds_outcome search_outcome
problem_says reading.Read problem = tt
problem_says reading.Zero problem = fit_says problem (zero_place (unnamed problem))
problem_says (reading.Diagram which) problem = tt
problem_says reading.Universal problem = universal_says problem false
problem_says reading.Merge problem = tt
problem_says reading.Trim problem = tt
problem_says (reading.Step n) problem = stepped_says 1 (n - 1) problem false
problem_says (reading.Rounds most) problem = counted_says (rounds_of (unnamed problem) most) false
problem_says (reading.Search kind steps changes) problem = searched_says (search_of kind steps changes problem)

read_says : (command : Reading) (problem : NamedProblem) (fault : Option InputFault) → MaySay (read_outcome command problem fault).status (judges (Reads command))
read_says command problem None = problem_says command problem
read_says command problem (Some fault) = fault_says fault (judges (Reads command))

pub reading_says : (command : Reading) (bytes : List ℕ) → MaySay (reading_outcome command bytes).status (judges (Reads command))
unfolding reading_outcome
reading_says command bytes = read_says command (problem_of (lines_of bytes)) (first_fault 0 1 (lines_of bytes))

-- ---- those that judge a map, and a certificate
verdict_says : (names : List (List ℕ)) (given : MapVerdict) → MaySay (map_outcome names given).status true
verdict_says names verdict.Yes = tt
verdict_says names verdict.Degrees = refl
verdict_says names (verdict.Empty label) = refl
verdict_says names (verdict.Twice label) = refl
verdict_says names (verdict.Active config) = refl
verdict_says names (verdict.Passive config) = refl
verdict_says names (verdict.Count side.Active) = refl
verdict_says names (verdict.Count side.Passive) = refl

mapped_says : (mapping : Mapping) (text : Result MapText InputFault) → MaySay (mapped mapping text).status true
mapped_says mapping (Ok text) = verdict_says (source (kind_of mapping) text.from text.to).names (text_verdict mapping text)
mapped_says mapping (Err fault) = fault_says fault true

pub mapping_says : (mapping : Mapping) (bytes : List ℕ) → MaySay (mapping_outcome mapping bytes).status true
unfolding mapping_outcome
mapping_says mapping bytes = mapped_says mapping (map_text (kind_of mapping) bytes)

or_refusal_says : (verdict : TableVerdict) (outcome : Outcome) → MaySay outcome.status true → MaySay (or_refusal verdict outcome).status true
or_refusal_says table.Yes outcome says = says
or_refusal_says (table.Active number) outcome says = refl
or_refusal_says table.Passive outcome says = refl

if_counted_says : (count : Option ℕ) (outcome : Outcome) → MaySay outcome.status true → MaySay (if_counted count outcome).status true
if_counted_says None outcome says = tt
if_counted_says (Some count) outcome says = says

tabled_says : (form : TableForm) (text : TableText) → MaySay (tabled form text).status true
tabled_says form.Plain text = or_refusal_says (table_verdict (unnamed text.problem) text.table) (done (codes "yes\n")) tt
tabled_says form.Faster text =
    let problem = text.problem in
    let behind : Outcome = done (table_text (named_derived (unnamed problem)) (faster_table (unnamed problem) text.table)) in
    or_refusal_says (table_verdict (unnamed problem) text.table) (or_limit 1 (step_limit (unnamed problem)) behind) (passed 1 (step_limit (unnamed problem)) behind true tt)
tabled_says form.Slower text =
    let problem = text.problem in
    let next = unwrap_or text.next problem in
    let more : Outcome = slower_outcome problem text.table in
    passed 1 (step_limit (unnamed problem)) (behind_next problem next text.table) true
    (chosen (same_problems next (named_derived (unnamed problem))) (or_refusal (table_verdict (unnamed next) text.table) more) (refused (codes "no: next\n")) true
    (or_refusal_says (table_verdict (unnamed next) text.table) more
    (if_counted_says (view_count problem.active.degree problem.passive.degree (suc text.table.radius)) (done (table_text problem (slower_table (unnamed problem) text.table))) tt)) refl)

or_fault_says : (form : TableForm) (text : Result TableText InputFault) → MaySay (or_fault form text).status true
or_fault_says form (Ok text) = tabled_says form text
or_fault_says form (Err fault) = fault_says fault true

pub tabling_says : (form : TableForm) (bytes : List ℕ) → MaySay (tabling_outcome form bytes).status true
unfolding tabling_outcome
tabling_says form bytes = or_fault_says form (table_input form bytes)

passed_or_said : (number : ℕ) (first : Option StepLimit) (text : List ℕ) (given : Verdict) → MaySay (or_limit number first (behind text (verdict_outcome given))).status true
passed_or_said number (Some first) text given = tt
passed_or_said number None text (Accepted kind steps) = tt
passed_or_said number None text (Refused step clause) = refl

pub making_says : (command : Making) → MaySay (making_outcome command).status (judges (Makes command))
unfolding making_outcome one_step_outcome
making_says (making.OfFamily kind active passive number) = tt
making_says (making.OneStep colours) =
    let problem = family_of Colouring 3 2 colours in
    passed_or_said 1 (step_limit (unnamed problem)) (sizes_text (named_derived (unnamed problem))) (verdict_of (one_step_bound problem))

-- ---- the command that runs an algorithm
moved_says : (text : RunText) (line : Option ℕ) → MaySay (delivered text line).status true
moved_says text (Some line) = refl
moved_says text None = tt

verified_says : (text : RunText) (given : Verdict) → MaySay (verified text given).status true
verified_says text (Accepted Lower steps) = refl
verified_says text (Accepted Upper steps) = moved_says text (first_illegal text.tree (length text.bound.steps) [] text.deliveries)
verified_says text (Accepted Fixed steps) = refl
verified_says text (Refused step clause) = refl

written_says : (text : Result RunText InputFault) → MaySay (written text).status true
written_says (Ok text) = verified_says text (verdict_of text.bound)
written_says (Err fault) = fault_says fault true

pub running_says : (bytes : List ℕ) → MaySay (running_outcome bytes).status true
unfolding running_outcome
running_says bytes = written_says (run_text bytes)

-- ---- the answer of a run
pub says_none : (words : List (List ℕ)) (output : Output) → None ≡ command_of words → outcome_of output ≡ bad_words → Says (status_of output.answer) (command_of words)
says_none words output is bad = subst (Says (status_of output.answer)) is (ap (λ (o : Outcome). o.status) bad)

pub says_of : {E : Type 0} (words : List (List ℕ)) (command : Command) (result : Result Output E) → Some command ≡ command_of words
    → IfOk result (λ output. MaySay (status_of output.answer) (judges command)) → IfOk result (λ output. Says (status_of output.answer) (command_of words))
says_of words command (Ok output) is says = subst (Says (status_of output.answer)) is says
says_of words command (Err fault) is says = tt

pub says_by : (words : List (List ℕ)) (command : Command) (status : Status) → Some command ≡ command_of words → MaySay status (judges command) → Says status (command_of words)
says_by words command status is says = subst (Says status) is says

pub says_bad_words : (command : Option Command) (answer result : Status) → Says answer command → result ≡ answer
    → (result ≡ BadWords → command ≡ None) × (command ≡ None → result ≡ BadWords)
says_bad_words None answer result says is = (λ bad. refl, λ none. is ∙ says)
says_bad_words (Some command) answer result says is = (λ bad. absurd (subst (λ s. MaySay s (judges command)) (sym is ∙ bad) says), λ none. absurd (cc))

pub says_no : (command : Option Command) (answer result : Status) → Says answer command → result ≡ answer → result ≡ No → IsTrue (is_judging command)
says_no None answer result says is said_no = absurd (let wrong : No ≡ BadWords = sym said_no ∙ is ∙ says in cc)
says_no (Some command) answer result says is said_no = subst (λ s. MaySay s (judges command)) (sym is ∙ said_no) says
