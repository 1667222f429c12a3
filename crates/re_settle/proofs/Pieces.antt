-- What the word tells piece by piece.
use Rattle.std.proofs.Common.{◌≡◌, ◌∙◌, ℕ, false, List, [], ◌∷◌, ◌++◌, append_assoc, refl, sym, ap, subst, None, Some}
use Rattle.std.specs.Prelude.{codes}
use Rattle.re_chains.specs.TwoTexts.{has_line}
use Rattle.re_evidence.specs.Claims.{is_final}
use Rattle.re_frame.specs.Outcomes.{Outcome, outcome_of}
use Rattle.re_frame.specs.TextFaults.{fault_outcome}
use Rattle.re_frame.specs.declared.output.Output.{Output}
use Rattle.re_problem.specs.NamedProblems.{NamedProblem}
use Rattle.re_problem.specs.ProblemTexts.{first_fault, lines_of, problem_of}
use Rattle.re_problem.specs.declared.fault.InputFault.{InputFault}
use Rattle.re_settle.proofs.Saying.{either_text}
use Rattle.re_settle.specs.Answers.{IsAnswer, MayGive, MayGiveRead, by_claim, settled_outcome}
use Rattle.re_settle.specs.Claims.{claim_of}
use Rattle.re_settle.specs.GivenAnswers.{MaySettle, MaySettleBy}
use Rattle.re_settle.specs.Lines.{claim_lines, first_text, number_texts, rest_lines, way_line, way_lines, way_numbers, way_rest, way_words}
use Rattle.re_settle.specs.Pieces.{IsClaimedOf, IsEnded, MayFollow, front_of, told}
use Rattle.re_settle.specs.Ways.{IsSettled}
use Rattle.re_settle.specs.declared.claimed.Claimed.{Claimed}
use Rattle.re_settle.specs.declared.types.Classified.{Classified}
use Rattle.re_settle.specs.declared.types.Settled.{Settled}
use Rattle.re_settle.specs.declared.types.Settled.TheVariants as settled
use Rattle.re_settle.specs.declared.types.Way.{Way}
use Rattle.re_settle.specs.declared.types.Way.TheVariants.{Flexible}
use Rattle.re_settle.specs.declared.words.SettleWord.{SettleWord}

-- ---- what follows the claim
-- the lines of something that is known, with the same claim
lines_told : (claimed : Claimed) (classified : Classified) (rest : List ℕ) → classified.settled ≡ claimed.classified.settled → rest ≡ rest_lines claimed.problem classified
    → told claimed rest ≡ settled_outcome claimed.problem classified
lines_told claimed classified rest same lines =
    ap (λ (s : Settled). by_claim s (claim_lines claimed.problem s ++ rest)) (sym same) ∙ ap (λ t. by_claim classified.settled (claim_lines claimed.problem classified.settled ++ t)) lines

pub follows : (claimed : Claimed) (classified : Classified) (rest : List ℕ) → IsSettled claimed.times claimed.problem classified → classified.settled ≡ claimed.classified.settled
    → rest ≡ rest_lines claimed.problem classified → MayFollow claimed rest
unfolding MaySettle MayGive
follows claimed classified rest known same lines word bytes of =
    let outcome = told claimed rest in
    let answer : IsAnswer claimed.times claimed.problem outcome = record { classified = classified; lines = lines_told claimed classified rest same lines; known = known } in
    let on_problem : IsAnswer claimed.times (problem_of (lines_of bytes)) outcome = subst (λ (p : NamedProblem). IsAnswer claimed.times p outcome) of.problem answer in
    let by_word : IsAnswer word.times (problem_of (lines_of bytes)) outcome = subst (λ (t : ℕ). IsAnswer t (problem_of (lines_of bytes)) outcome) of.times on_problem in
    subst (λ b. MaySettleBy b word bytes outcome) (sym of.alone) (subst (λ fault. MayGiveRead word.times fault (problem_of (lines_of bytes)) outcome) (sym of.faultless) by_word)

-- what is claimed may stand alone
pub begins : (claimed : Claimed) → IsSettled claimed.times claimed.problem claimed.classified → (rest : List ℕ) × MayFollow claimed rest
begins claimed known = (rest_lines claimed.problem claimed.classified, follows claimed claimed.classified (rest_lines claimed.problem claimed.classified) known refl refl)

-- ---- whole lines
behind : (front text : List ℕ) → IsEnded text → IsEnded (front ++ text)
behind front text (before, is) = (front ++ before, ap (λ t. front ++ t) is ∙ sym (append_assoc front before (10 ∷ [])))

way_ended : (names : List (List ℕ)) (way : Way) → IsEnded (way_line names way)
way_ended names way =
    behind (codes "by: ") (way_words way ++ (number_texts (way_numbers way) ++ (way_rest names way ++ codes "\n")))
    (behind (way_words way) (number_texts (way_numbers way) ++ (way_rest names way ++ codes "\n"))
    (behind (number_texts (way_numbers way)) (way_rest names way ++ codes "\n") (behind (way_rest names way) (codes "\n") ([], refl))))

ways_ended : (names : List (List ℕ)) (known : Settled) → IsEnded (way_lines names known)
ways_ended names settled.Unsolvable = way_ended names Flexible
ways_ended names (settled.Exactly shown) = way_ended names shown.way
ways_ended names (settled.Never way) = way_ended names way
ways_ended names (settled.Within more None) = way_ended names more.way
ways_ended names (settled.Within more (Some most)) = behind (way_line names more.way) (way_line names most.way) (way_ended names most.way)

pub front_ended : (claimed : Claimed) → IsEnded (front_of claimed)
front_ended claimed =
    behind (first_text claimed.problem.passive.degree claimed.classified.settled) (way_lines claimed.problem.names claimed.classified.settled)
    (ways_ended claimed.problem.names claimed.classified.settled)

-- ---- what is told
-- the line of the first fault of a text without a line `== given`
pub fault_told : (word : SettleWord) (bytes : List ℕ) (fault : InputFault) (outcome : Outcome) → has_line (codes "given") bytes ≡ false → first_fault 0 1 (lines_of bytes) ≡ Some fault
    → outcome ≡ fault_outcome fault → MaySettle word bytes outcome
unfolding MaySettle MayGive
fault_told word bytes fault outcome alone came is =
    subst (λ b. MaySettleBy b word bytes outcome) (sym alone) (subst (λ first. MayGiveRead word.times first (problem_of (lines_of bytes)) outcome) (sym came) is)

-- the output of a text has it
pub told_by : (known : Settled) (output : Output) (text : List ℕ) → outcome_of output ≡ by_claim known text → output.text.items ≡ text
told_by known output text is = ap (λ (o : Outcome). o.text) is ∙ either_text (is_final (claim_of known)) text
