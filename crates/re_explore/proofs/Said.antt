-- What a run may say, by the words alone.
use Rattle.std.proofs.Common.{◌≡◌, ◌≢◌, ◌++◌, append_assoc, ℕ, List, Option, Some, None, refl, sym, ap, ◌∙◌, subst}
use Rattle.std.specs.Prelude.{IsTrue}
use Rattle.re_frame.specs.Outcomes.{IsAnswer, Outcome, outcome_of, status_of}
use Rattle.re_frame.specs.Runs.{MaySay}
use Rattle.re_frame.specs.declared.output.Output.{Output}
use Rattle.re_frame.specs.declared.status.Status.{Status}
use Rattle.re_frame.specs.declared.status.Status.TheVariants.{BadInput, BadWords, Done, Limit, No, NoMemory, ReadFault, WriteFault}
use Rattle.re_explore.specs.Commands.{IsOutcome, bad_words, command_of, is_judging, is_reading}
use Rattle.re_explore.specs.Expected.{IsExpected, Says, reads_input}
use Rattle.re_explore.specs.declared.command.Command.{Command}

pub says_none : (words : List (List ℕ)) (output : Output) → None ≡ command_of words → outcome_of output ≡ bad_words words → Says (status_of output.answer) (command_of words)
says_none words output is bad = subst (Says (status_of output.answer)) is (ap (λ (o : Outcome). o.status) bad)

pub says_by : (words : List (List ℕ)) (command : Command) (status : Status) → Some command ≡ command_of words → MaySay status (is_judging (Some command)) → Says status (command_of words)
says_by words command status is says = subst (Says status) is says

-- what a command may answer that the words name, they may, and where it reads, they do
pub expected_of : (words : List (List ℕ)) (command : Command) (bytes : List ℕ) (outcome : Outcome) → Some command ≡ command_of words → IsOutcome words (Some command) bytes outcome
    → IsExpected words bytes outcome
expected_of words command bytes outcome is may = subst (λ c. IsOutcome words c bytes outcome) is may

pub reading_of : (words : List (List ℕ)) (command : Command) → Some command ≡ command_of words → IsTrue (is_reading (Some command)) → IsTrue (reads_input words)
reading_of words command is reads = subst (λ c. IsTrue (is_reading c)) is reads

pub says_bad_words : (command : Option Command) (answer result : Status) → Says answer command → result ≡ answer
    → (result ≡ BadWords → command ≡ None) × (command ≡ None → result ≡ BadWords)
says_bad_words None answer result says is = (λ bad. refl, λ none. is ∙ says)
says_bad_words (Some command) answer result says is = (λ bad. absurd (subst (λ s. MaySay s (is_judging (Some command))) (sym is ∙ bad) says), λ none. absurd (cc))

pub says_no : (command : Option Command) (answer result : Status) → Says answer command → result ≡ answer → result ≡ No → IsTrue (is_judging command)
says_no None answer result says is said_no = absurd (let wrong : No ≡ BadWords = sym said_no ∙ is ∙ says in cc)
says_no (Some command) answer result says is said_no = subst (λ s. MaySay s (is_judging (Some command))) (sym is ∙ said_no) says

-- each status is an answer but for those of a fault, or of no memory
pub is_answer : (status : Status) → status ≢ NoMemory → status ≢ ReadFault → status ≢ WriteFault → IsAnswer status
is_answer Done memory read write = tt
is_answer No memory read write = tt
is_answer BadWords memory read write = tt
is_answer BadInput memory read write = tt
is_answer Limit memory read write = tt
is_answer ReadFault memory read write = absurd (read refl)
is_answer WriteFault memory read write = absurd (write refl)
is_answer NoMemory memory read write = absurd (memory refl)

-- four texts one behind the other
pub joined_four : (a b c d : List ℕ) → ((a ++ b) ++ c) ++ d ≡ a ++ (b ++ (c ++ d))
joined_four a b c d = append_assoc (a ++ b) c d ∙ append_assoc a b (c ++ d)

-- six texts one behind the other
pub joined_six : (a b c d e f : List ℕ) → ((((a ++ b) ++ c) ++ d) ++ e) ++ f ≡ a ++ (b ++ (c ++ (d ++ (e ++ f))))
joined_six a b c d e f =
    append_assoc (((a ++ b) ++ c) ++ d) e f ∙ append_assoc ((a ++ b) ++ c) d (e ++ f) ∙ append_assoc (a ++ b) c (d ++ (e ++ f)) ∙ append_assoc a b (c ++ (d ++ (e ++ f)))

-- seven texts one behind the other
pub joined_seven : (a b c d e f g : List ℕ) → (((((a ++ b) ++ c) ++ d) ++ e) ++ f) ++ g ≡ a ++ (b ++ (c ++ (d ++ (e ++ (f ++ g)))))
joined_seven a b c d e f g = append_assoc ((((a ++ b) ++ c) ++ d) ++ e) f g ∙ joined_six a b c d e (f ++ g)

-- eight texts one behind the other
pub joined_eight : (a b c d e f g h : List ℕ) → ((((((a ++ b) ++ c) ++ d) ++ e) ++ f) ++ g) ++ h ≡ a ++ (b ++ (c ++ (d ++ (e ++ (f ++ (g ++ h))))))
joined_eight a b c d e f g h = append_assoc (((((a ++ b) ++ c) ++ d) ++ e) ++ f) g h ∙ joined_seven a b c d e f (g ++ h)

-- nine texts one behind the other
pub joined_nine : (a b c d e f g h i : List ℕ) → (((((((a ++ b) ++ c) ++ d) ++ e) ++ f) ++ g) ++ h) ++ i ≡ a ++ (b ++ (c ++ (d ++ (e ++ (f ++ (g ++ (h ++ i)))))))
joined_nine a b c d e f g h i = append_assoc ((((((a ++ b) ++ c) ++ d) ++ e) ++ f) ++ g) h i ∙ joined_eight a b c d e f g (h ++ i)
