-- What the outcomes of `check` mean for algorithms.
use Rattle.std.proofs.Common.{◌≡◌, ◌≢◌, ℕ, zero, suc, ◌+◌, ◌<◌, ◌≤◌, Bool, true, false, not, eqb, ◌&&◌, List, [], ◌∷◌, ◌++◌, take, drop, get_or, inl, inr, ◌/◌, ◌%◌, length, length-append, codes, Option, Some, None, refl, sym, ap, ◌∙◌, subst, arith}
use Rattle.std.proofs.Math.Seq.{take-length}
use Rattle.std.specs.Prelude.{if◌then◌else◌, nat_le, nat_lt, Result, Ok, Err, IfOk}
use Rattle.std.specs.Fmt.{decimal}
use Rattle.std.specs.Io.KnownBytes.{Appends, Keeps}
use Rattle.std.specs.List.{AllByRecursion, list_all}
use Rattle.std.proofs.lemmas.Bool.{cases_lt}
use Rattle.std.proofs.lemmas.Bool.Decides.{nat_tests}
use Rattle.std.proofs.lemmas.Fmt.{decimal_digit, decimal_injective, decimal_nonempty, decimal_step}
use Rattle.std.proofs.lemmas.List.{append_cancel_left, append_cancel_right, append_assoc}
use Rattle.re_cert.proofs.FittingStates.{whole_bound}
use Rattle.re_cert.specs.Bounds.{Bound, one_form, renaming_fits, steps_fit}
use Rattle.re_cert.specs.CertificateTexts.{State, behind, bound_behind, certificate_fault, certificate_of, fault_behind, has_ended, text_lines}
use Rattle.re_cert.specs.declared.certificate.Kind.{Kind}
use Rattle.re_cert.specs.declared.certificate.Kind.TheVariants.{Fixed, Lower, Upper}
use Rattle.re_check.specs.Verdicts.{Means, bound_fault, verdict_of, verdict_with}
use Rattle.re_check.specs.declared.verdict.ClauseFault.{ClauseFault}
use Rattle.re_check.specs.declared.verdict.Verdict.{Verdict}
use Rattle.re_check.specs.declared.verdict.Verdict.TheVariants.{Accepted}
use Rattle.re_check.specs.declared.clause.Clause.{Clause}
use Rattle.re_io.specs.LineReading.{LineText}
use Rattle.re_labels.proofs.Tests.{and-true}
use Rattle.re_io.specs.declared.read.TheConstants.{MAX_BYTES}
use Rattle.re_problem.specs.NamedProblems.{unnamed}
use Rattle.re_problem.specs.Problems.{Problem}
use Rattle.re_problem.specs.declared.fault.InputFault.{InputFault}
use Rattle.re_problem.specs.declared.fault.InputFault.TheVariants as input
use Rattle.re_frame.specs.Check.{check_outcome, clause_name, is_final, judged, refused_line, verdict_line, verdict_outcome}
use Rattle.re_words.specs.Command.{command_of, word_of}
use Rattle.re_words.specs.Meaning.{DoneMeans, LineMeans}
use Rattle.re_frame.specs.Outcomes.{IsAnswer, Outcome, status_of, too_long, within_limit}
use Rattle.re_words.specs.Output.{command_outcome, expected, streaming_outcome}
use Rattle.re_frame.specs.TextFaults.{fault_line}
use Rattle.re_frame.specs.Runs.{Answers, StopsWithin}
use Rattle.re_frame.specs.declared.output.Output.{Output}
use Rattle.re_words.specs.declared.command.Command.TheVariants.{Makes, Maps, Reads, Streams, Tables, Runs}
use Rattle.re_words.specs.declared.command.Making.{Making}
use Rattle.re_words.specs.declared.command.Mapping.{Mapping}
use Rattle.re_words.specs.declared.command.Reading.{Reading}
use Rattle.re_table_texts.specs.declared.table_texts.TableForm.{TableForm}
use Rattle.re_words.specs.declared.command.Streaming.TheVariants.{Check}
use Rattle.re_frame.specs.declared.status.Answer.{Answer}
use Rattle.re_frame.specs.declared.status.Answer.TheVariants.{Done}
use Rattle.re_frame.specs.declared.status.Status.{Status}
use Rattle.re_frame.specs.declared.status.Status.TheVariants as status
use Rattle.re_cert.specs.declared.certificate.TheConstants.{MAX_STEPS}

-- the answer Done to a verdict that means what it says
pub accepted_means : (verdict : Verdict) (bound : Bound) (answer : Answer) → verdict ≡ verdict_of bound → Means verdict (unnamed bound.first)
    → status_of answer ≡ (verdict_outcome verdict).status → answer ≡ Done → Means (Accepted bound.kind (length bound.steps)) (unnamed bound.first)
accepted_means verdict bound answer judged means status done =
    go (bound_fault bound) (subst (λ v. Means v (unnamed bound.first)) judged means) (sym (ap status_of done) ∙ status ∙ ap (λ v. (verdict_outcome v).status) judged)
  where
    go : (fault : Option ClauseFault) → Means (verdict_with bound.kind (length bound.steps) fault) (unnamed bound.first)
        → status_of Done ≡ (verdict_outcome (verdict_with bound.kind (length bound.steps) fault)).status → Means (Accepted bound.kind (length bound.steps)) (unnamed bound.first)
    go None means accepted = means
    go (Some fault) means accepted = absurd (cc)

-- the word `check` names no command that takes its input as a whole
reads_means : (words : List (List ℕ)) (bytes : List ℕ) (result : Status) (reading : Reading) → Some (Reads reading) ≡ command_of words → DoneMeans words bytes result
unfolding command_of word_of
reads_means words bytes result reading is = λ check done. absurd (let no : Some (Reads reading) ≡ Some (Streams Check) = is ∙ ap command_of check in cc)

pub reads_mean : {E : Type 0} (words : List (List ℕ)) (reading : Reading) (left : Option (List ℕ)) (result : Result Output E) → Some (Reads reading) ≡ command_of words
    → IfOk result (λ output. (bytes : List ℕ) → left ≡ Some bytes → DoneMeans words bytes (status_of output.answer))
reads_mean words reading left (Ok output) is = λ bytes told. reads_means words bytes (status_of output.answer) reading is
reads_mean words reading left (Err fault) is = tt

-- and none that judges a map
maps_means : (words : List (List ℕ)) (bytes : List ℕ) (result : Status) (mapping : Mapping) → Some (Maps mapping) ≡ command_of words → DoneMeans words bytes result
unfolding command_of word_of
maps_means words bytes result mapping is = λ check done. absurd (let no : Some (Maps mapping) ≡ Some (Streams Check) = is ∙ ap command_of check in cc)

pub maps_mean : {E : Type 0} (words : List (List ℕ)) (mapping : Mapping) (left : Option (List ℕ)) (result : Result Output E) → Some (Maps mapping) ≡ command_of words
    → IfOk result (λ output. (bytes : List ℕ) → left ≡ Some bytes → DoneMeans words bytes (status_of output.answer))
maps_mean words mapping left (Ok output) is = λ bytes told. maps_means words bytes (status_of output.answer) mapping is
maps_mean words mapping left (Err fault) is = tt

-- and none that works on a table
tables_means : (words : List (List ℕ)) (bytes : List ℕ) (result : Status) (form : TableForm) → Some (Tables form) ≡ command_of words → DoneMeans words bytes result
unfolding command_of word_of
tables_means words bytes result form is = λ check done. absurd (let no : Some (Tables form) ≡ Some (Streams Check) = is ∙ ap command_of check in cc)

pub tables_mean : {E : Type 0} (words : List (List ℕ)) (form : TableForm) (left : Option (List ℕ)) (result : Result Output E) → Some (Tables form) ≡ command_of words
    → IfOk result (λ output. (bytes : List ℕ) → left ≡ Some bytes → DoneMeans words bytes (status_of output.answer))
tables_mean words form left (Ok output) is = λ bytes told. tables_means words bytes (status_of output.answer) form is
tables_mean words form left (Err fault) is = tt

-- and none that reads nothing
pub makes_mean : (words : List (List ℕ)) (bytes : List ℕ) (result : Status) (making : Making) → Some (Makes making) ≡ command_of words → DoneMeans words bytes result
unfolding command_of word_of
makes_mean words bytes result making is = λ check done. absurd (let no : Some (Makes making) ≡ Some (Streams Check) = is ∙ ap command_of check in cc)

-- and not the one that runs an algorithm
runs_means : (words : List (List ℕ)) (bytes : List ℕ) (result : Status) → Some Runs ≡ command_of words → DoneMeans words bytes result
unfolding command_of word_of
runs_means words bytes result is = λ check done. absurd (let no : Some Runs ≡ Some (Streams Check) = is ∙ ap command_of check in cc)

pub runs_mean : {E : Type 0} (words : List (List ℕ)) (left : Option (List ℕ)) (result : Result Output E) → Some Runs ≡ command_of words
    → IfOk result (λ output. (bytes : List ℕ) → left ≡ Some bytes → DoneMeans words bytes (status_of output.answer))
runs_mean words left (Ok output) is = λ bytes told. runs_means words bytes (status_of output.answer) is
runs_mean words left (Err fault) is = tt

-- ---- the line of an accepted bound
-- bytes and a line feed behind them, which is the only one
record OneLine (text : List ℕ) : Type 0 where
  inner : List ℕ
  whole : text ≡ inner ++ 10 ∷ []
  apart : AllByRecursion (λ b. b ≢ 10) inner

no_feeds : (text : List ℕ) → list_all (λ b. not (eqb b 10)) text ≡ true → AllByRecursion (λ b. b ≢ 10) text
no_feeds [] h = tt
no_feeds (b ∷ text) h =
    let both = and-true (not (eqb b 10)) (list_all (λ b. not (eqb b 10)) text) h in
    ((λ same. let test : not (eqb b 10) ≡ true = both.0 in grind (arith, nat_tests)), no_feeds text both.1)

joined : (front back : List ℕ) → AllByRecursion (λ b. b ≢ 10) front → AllByRecursion (λ b. b ≢ 10) back → AllByRecursion (λ b. b ≢ 10) (front ++ back)
joined [] back h k = k
joined (b ∷ front) back h k = (h.0, joined front back h.1 k)

digits : (n : ℕ) → n ≤ MAX_STEPS → AllByRecursion (λ b. b ≢ 10) (decimal n) × (get_or (decimal n) 0 0 < 58)
digits n small = elim (cases_lt n 10) [ inl low ↦ alone low | inr high ↦ several high ]
  where
    no_feed : (d : ℕ) → 48 + d ≢ 10
    no_feed d same = omega (arith, same)

    alone : n < 10 → AllByRecursion (λ b. b ≢ 10) (decimal n) × (get_or (decimal n) 0 0 < 58)
    alone low = rw (decimal_digit n low) ((no_feed n, tt), omega arith)

    several : 10 ≤ n → AllByRecursion (λ b. b ≢ 10) (decimal n) × (get_or (decimal n) 0 0 < 58)
    several high =
        let q : n / 10 < 10 = omega arith in
        let text : decimal n ≡ (48 + n / 10) ∷ (48 + n % 10) ∷ [] = decimal_step n high (omega arith) ∙ ap (λ d. d ++ (48 + n % 10) ∷ []) (decimal_digit (n / 10) q) in
        rw text ((no_feed (n / 10), (no_feed (n % 10), tt)), omega arith)

around : (front number back : List ℕ) → list_all (λ b. not (eqb b 10)) front ≡ true → AllByRecursion (λ b. b ≢ 10) number → list_all (λ b. not (eqb b 10)) back ≡ true
    → OneLine (front ++ number ++ (back ++ 10 ∷ []))
around front number back h k l = record {
  inner = front ++ number ++ back;
  whole = sym (append_assoc (front ++ number) back (10 ∷ []));
  apart = joined (front ++ number) back (joined front number (no_feeds front h) k) (no_feeds back l);
}

accepted_line : (kind : Kind) (steps : ℕ) → steps ≤ MAX_STEPS → OneLine (verdict_line (Accepted kind steps))
accepted_line Lower steps small = around (codes "accepted: not solvable in ") (decimal steps) (codes " or fewer rounds") refl (digits steps small).0 refl
accepted_line Upper steps small = around (codes "accepted: solvable in ") (decimal steps) (codes " rounds") refl (digits steps small).0 refl
accepted_line Fixed steps small = record { inner = codes "accepted: not solvable in any number of rounds"; whole = refl; apart = no_feeds (codes "accepted: not solvable in any number of rounds") refl }

-- a first part of a line that is a line is the line
whole_inner : (inner other : List ℕ) → AllByRecursion (λ b. b ≢ 10) inner → AllByRecursion (λ b. b ≢ 10) other → (n : ℕ) → take n (inner ++ 10 ∷ []) ≡ other ++ 10 ∷ [] → inner ≡ other
whole_inner inner [] h k zero e = let none : [] ≡ 10 ∷ [] = e in absurd (cc)
whole_inner inner (y ∷ other) h k zero e = let none : [] ≡ y ∷ other ++ 10 ∷ [] = e in absurd (cc)
whole_inner [] [] h k (suc n) e = refl
whole_inner [] (y ∷ other) h k (suc n) e = absurd (k.0 (sym (ap (λ t. get_or t 0 0) e)))
whole_inner (x ∷ inner) [] h k (suc n) e = absurd (h.0 (ap (λ t. get_or t 0 0) e))
whole_inner (x ∷ inner) (y ∷ other) h k (suc n) e =
    let same : x ≡ y = ap (λ t. get_or t 0 0) e in
    let rest : inner ≡ other = whole_inner inner other h.1 k.1 n (ap (λ t. drop 1 t) e) in
    cc

whole_line : (text line : List ℕ) → OneLine text → OneLine line → (n : ℕ) → take n text ≡ line → text ≡ line
whole_line text line one other n e =
    let same : one.inner ≡ other.inner = whole_inner one.inner other.inner one.apart other.apart n (subst (λ t. take n t ≡ other.inner ++ 10 ∷ []) one.whole (e ∙ other.whole)) in
    one.whole ∙ ap (λ t. t ++ 10 ∷ []) same ∙ sym other.whole

-- ---- what two lines say
same_steps : (front back : List ℕ) (k n : ℕ) → k ≤ MAX_STEPS → n ≤ MAX_STEPS → front ++ decimal k ++ back ≡ front ++ decimal n ++ back → k ≡ n
same_steps front back k n small few e =
    decimal_injective k n (omega arith) (omega arith)
    (append_cancel_left front (decimal k) (decimal n) (append_cancel_right (front ++ decimal k) (front ++ decimal n) back e))

other_at : {A : Type 0} (text line : List ℕ) (i : ℕ) (a b : ℕ) → text ≡ line → get_or text i 0 ≡ a → get_or line i 0 ≡ b → (a ≡ b → ⊥) → A
other_at text line i a b e at there apart = absurd (apart (sym at ∙ ap (λ t. get_or t i 0) e ∙ there))

-- the number of a lower bound doesn't begin as the word for a fixed point
not_any : (k : ℕ) → k ≤ MAX_STEPS → codes "accepted: not solvable in " ++ decimal k ++ codes " or fewer rounds\n" ≡ codes "accepted: not solvable in any number of rounds\n" → ⊥
not_any k small e =
    let rest : decimal k ++ codes " or fewer rounds\n" ≡ codes "any number of rounds\n" =
    append_cancel_left (codes "accepted: not solvable in ") (decimal k ++ codes " or fewer rounds\n") (codes "any number of rounds\n") (sym (append_assoc (codes "accepted: not solvable in ") (decimal k) (codes " or fewer rounds\n")) ∙ e) in
    first (decimal k) (decimal_nonempty k (omega arith)) (digits k small).1 (ap (λ t. get_or t 0 0) rest)
  where
    first : (text : List ℕ) → 0 < length text → get_or text 0 0 < 58 → get_or (text ++ codes " or fewer rounds\n") 0 0 ≡ 97 → ⊥
    first [] some low is = omega (arith, some)
    first (b ∷ text) some low is = omega (arith, low, is)

same_bound : (kind other : Kind) (k n : ℕ) → k ≤ MAX_STEPS → n ≤ MAX_STEPS → verdict_line (Accepted kind k) ≡ verdict_line (Accepted other n) → (problem : Problem) → Means (Accepted kind k) problem → Means (Accepted other n) problem
same_bound Lower Lower k n small few e problem means = subst (λ s. Means (Accepted Lower s) problem) (same_steps (codes "accepted: not solvable in ") (codes " or fewer rounds\n") k n small few e) means
same_bound Upper Upper k n small few e problem means = subst (λ s. Means (Accepted Upper s) problem) (same_steps (codes "accepted: solvable in ") (codes " rounds\n") k n small few e) means
same_bound Fixed Fixed k n small few e problem means = means
same_bound Lower Upper k n small few e problem means = other_at _ _ 10 110 115 e refl refl (λ h. omega (arith, h))
same_bound Upper Lower k n small few e problem means = other_at _ _ 10 115 110 e refl refl (λ h. omega (arith, h))
same_bound Fixed Upper k n small few e problem means = other_at _ _ 10 110 115 e refl refl (λ h. omega (arith, h))
same_bound Upper Fixed k n small few e problem means = other_at _ _ 10 115 110 e refl refl (λ h. omega (arith, h))
same_bound Lower Fixed k n small few e problem means = absurd (not_any k small e)
same_bound Fixed Lower k n small few e problem means = absurd (not_any n few (sym e))

-- ---- the text of an outcome that begins as such a line
record IsAccepted (bound : Bound) (fault : Option InputFault) (outcome : Outcome) : Type 0 where
  status_is : outcome.status ≡ status.Done
  text_is : outcome.text ≡ verdict_line (Accepted bound.kind (length bound.steps))

refused_head : {A : Type 0} (step : ℕ) (c : Clause) → get_or (refused_line step c) 0 0 ≡ 97 → A
refused_head step c head = go (is_final c) head
  where
    go : {A : Type 0} (b : Bool) → get_or (if b then codes "refused: clause " ++ clause_name c ++ codes "\n" else codes "refused: step " ++ decimal step ++ codes ", clause " ++ clause_name c ++ codes "\n") 0 0 ≡ 97 → A
    go true head = absurd (let r : 114 ≡ 97 = head in omega arith)
    go false head = absurd (let r : 114 ≡ 97 = head in omega arith)

fault_head : {A : Type 0} (fault : InputFault) → get_or (fault_line fault) 0 0 ≡ 97 → A
fault_head (input.BadByte n) head = absurd (let r : 105 ≡ 97 = head in omega arith)
fault_head (input.BadItem n) head = absurd (let r : 105 ≡ 97 = head in omega arith)
fault_head (input.WrongDegree n) head = absurd (let r : 105 ≡ 97 = head in omega arith)
fault_head (input.MissingBlock n) head = absurd (let r : 105 ≡ 97 = head in omega arith)
fault_head (input.ExtraBlock n) head = absurd (let r : 105 ≡ 97 = head in omega arith)
fault_head (input.DegreeOutOfRange n) head = absurd (let r : 105 ≡ 97 = head in omega arith)
fault_head (input.BadSection n) head = absurd (let r : 105 ≡ 97 = head in omega arith)
fault_head (input.BadEntry n) head = absurd (let r : 105 ≡ 97 = head in omega arith)
fault_head (input.BadBack n) head = absurd (let r : 105 ≡ 97 = head in omega arith)
fault_head (input.TooManyLabels n) head = absurd (let r : 108 ≡ 97 = head in omega arith)
fault_head (input.TooManyConfigurations n) head = absurd (let r : 108 ≡ 97 = head in omega arith)
fault_head (input.TooManySteps n) head = absurd (let r : 108 ≡ 97 = head in omega arith)
fault_head (input.TooManyRows n) head = absurd (let r : 108 ≡ 97 = head in omega arith)
fault_head (input.TooManyViews n) head = absurd (let r : 108 ≡ 97 = head in omega arith)
fault_head (input.TooManyNodes n) head = absurd (let r : 108 ≡ 97 = head in omega arith)
fault_head input.EarlyEnd head = absurd (let r : 105 ≡ 97 = head in omega arith)

verdict_head : (bound : Bound) (fault : Option ClauseFault) → get_or (verdict_outcome (verdict_with bound.kind (length bound.steps) fault)).text 0 0 ≡ 97
    → IsAccepted bound None (verdict_outcome (verdict_with bound.kind (length bound.steps) fault))
verdict_head bound None head = record { status_is = refl; text_is = refl }
verdict_head bound (Some fault) head = refused_head fault.step fault.clause head

judged_head : (fault : Option InputFault) (bound : Bound) → get_or (judged fault bound).text 0 0 ≡ 97 → IsAccepted bound fault (judged fault bound)
judged_head None bound head = verdict_head bound (bound_fault bound) head
judged_head (Some fault) bound head = fault_head fault head

limit_head : (long : Bool) (fault : Option InputFault) (bound : Bound) → get_or (if long then too_long else judged fault bound).text 0 0 ≡ 97 → IsAccepted bound fault (if long then too_long else judged fault bound)
limit_head true fault bound head = absurd (let l : 108 ≡ 97 = head in omega arith)
limit_head false fault bound head = judged_head fault bound head

-- the outcome of the word `check` is that of its definition
expected_check : (bytes : List ℕ) → expected (codes "check" ∷ []) bytes ≡ within_limit check_outcome bytes
unfolding expected command_outcome command_of word_of streaming_outcome
expected_check bytes = refl

check_head : (words : List (List ℕ)) (bytes : List ℕ) → words ≡ codes "check" ∷ [] → get_or (expected words bytes).text 0 0 ≡ 97
    → IsAccepted (certificate_of (text_lines bytes)) (certificate_fault (text_lines bytes)) (expected words bytes)
unfolding within_limit check_outcome
check_head words bytes is head =
    let here : expected words bytes ≡ within_limit check_outcome bytes = ap (λ w. expected w bytes) is ∙ expected_check bytes in
    let bound = certificate_of (text_lines bytes) in
    let fault = certificate_fault (text_lines bytes) in
    subst (IsAccepted bound fault) (sym here) (limit_head (nat_lt MAX_BYTES (length bytes)) fault bound (sym (ap (λ (o : Outcome). get_or o.text 0 0) here) ∙ head))

-- a certificate without a fault has few steps
few_steps : (lines : List LineText) → certificate_fault lines ≡ None → length (certificate_of lines).steps ≤ MAX_STEPS
few_steps lines none = go (behind lines) refl none
  where
    go : (r : Result State InputFault) → behind lines ≡ r → fault_behind r ≡ None → length (bound_behind r).steps ≤ MAX_STEPS
    go (Err fault) e none = let there : Some fault ≡ None = none in absurd (cc)
    go (Ok s) e none = by_end (has_ended s.phase) refl none
      where
        by_end : (b : Bool) → has_ended s.phase ≡ b → (if not b then Some input.EarlyEnd else None) ≡ None → length s.bound.steps ≤ MAX_STEPS
        by_end true ended none =
            let few : nat_le (length s.bound.steps) MAX_STEPS ≡ true = (and-true (nat_le (length s.bound.steps) MAX_STEPS) (steps_fit s.bound.kind s.bound.first s.bound.steps) (and-true (nat_le (length s.bound.steps) MAX_STEPS && steps_fit s.bound.kind s.bound.first s.bound.steps) (one_form s.bound.steps) (and-true (nat_le (length s.bound.steps) MAX_STEPS && steps_fit s.bound.kind s.bound.first s.bound.steps && one_form s.bound.steps) (renaming_fits s.bound) (whole_bound lines s e ended)).0).0).0 in
            grind (arith, nat_tests)
        by_end false ended none = let there : Some input.EarlyEnd ≡ None = none in absurd (cc)

-- ---- what stands in a sink
-- what a call that puts a text leaves, whatever its status
pub record Leaves (result : Status) (old new : Option (List ℕ)) (outcome : Outcome) : Type 0 where
  pub answer : IsAnswer result → Answers result old new outcome
  pub partly : result ≡ status.WriteFault → StopsWithin old new outcome.text
  pub memory : result ≡ status.NoMemory → Keeps old new
  pub read : result ≡ status.ReadFault → ⊥

appended : (old new : Option (List ℕ)) (front line text : List ℕ) → old ≡ Some front → new ≡ Some (front ++ line) → Appends old new text → text ≡ line
appended old new front line text was is appends =
    sym (append_cancel_left front line text (subst (λ o. Appends o (Some (front ++ line)) text) was (subst (λ n. Appends old n text) is appends)))

nothing_appended : (old new : Option (List ℕ)) (front line : List ℕ) → 0 < length line → old ≡ Some front → new ≡ Some (front ++ line) → Keeps old new → ⊥
nothing_appended old new front line some was is keeps =
    let same : front ++ line ≡ front = subst (λ o. Keeps o (Some (front ++ line))) was (subst (Keeps old) is keeps) in
    let more : length (front ++ line) ≡ length front + length line = length-append front line in
    let none : length front + length line ≡ length front = sym more ∙ ap length same in
    omega (arith, none, some)

-- a text of which a first part was put
abbrev PartPut : List ℕ → List ℕ → Type 0
PartPut line text = (n : ℕ) × (take n text ≡ line)

whole_put : (text line : List ℕ) → text ≡ line → PartPut line text
whole_put text line e = (length text, take-length text ∙ e)

part_left : (result : Status) (old new : Option (List ℕ)) (outcome : Outcome) (front line : List ℕ) → 0 < length line → Leaves result old new outcome → old ≡ Some front → new ≡ Some (front ++ line) → PartPut line outcome.text
part_left status.ReadFault old new outcome front line some leaves was is = absurd (leaves.read refl)
part_left status.NoMemory old new outcome front line some leaves was is = absurd (nothing_appended old new front line some was is (leaves.memory refl))
part_left status.WriteFault old new outcome front line some leaves was is =
    let part = (leaves.partly refl).front in
    (part.0, appended old new front line (take part.0 outcome.text) was is part.1)
part_left status.Done old new outcome front line some leaves was is = whole_put outcome.text line (appended old new front line outcome.text was is (leaves.answer tt).text)
part_left status.No old new outcome front line some leaves was is = whole_put outcome.text line (appended old new front line outcome.text was is (leaves.answer tt).text)
part_left status.BadWords old new outcome front line some leaves was is = whole_put outcome.text line (appended old new front line outcome.text was is (leaves.answer tt).text)
part_left status.BadInput old new outcome front line some leaves was is = whole_put outcome.text line (appended old new front line outcome.text was is (leaves.answer tt).text)
part_left status.Limit old new outcome front line some leaves was is = whole_put outcome.text line (appended old new front line outcome.text was is (leaves.answer tt).text)

head_of_part : (n : ℕ) (text line : List ℕ) → take n text ≡ line → get_or line 0 0 ≡ 97 → get_or text 0 0 ≡ 97
head_of_part zero text line is head = absurd (let none : 0 ≡ 97 = ap (λ t. get_or t 0 0) is ∙ head in omega arith)
head_of_part (suc n) [] line is head = absurd (let none : 0 ≡ 97 = ap (λ t. get_or t 0 0) is ∙ head in omega arith)
head_of_part (suc n) (b ∷ text) line is head = ap (λ t. get_or t 0 0) is ∙ head

line_head : (kind : Kind) (steps : ℕ) → get_or (verdict_line (Accepted kind steps)) 0 0 ≡ 97
line_head Lower steps = refl
line_head Upper steps = refl
line_head Fixed steps = refl

filled : (text : List ℕ) → get_or text 0 0 ≡ 97 → 0 < length text
filled [] head = absurd (let none : 0 ≡ 97 = head in omega arith)
filled (b ∷ text) head = omega arith

-- where the line of an accepted bound was written, this bound holds
pub line_means : (words : List (List ℕ)) (bytes : List ℕ) (outcome : Outcome) (result : Status) (old new : Option (List ℕ)) → Leaves result old new outcome → outcome ≡ expected words bytes
    → DoneMeans words bytes outcome.status → LineMeans words bytes old new
line_means words bytes outcome result old new leaves is means is_check kind steps small front was now =
    let line = verdict_line (Accepted kind steps) in
    let bound = certificate_of (text_lines bytes) in
    let part = part_left result old new outcome front line (filled line (line_head kind steps)) leaves was now in
    let head : get_or outcome.text 0 0 ≡ 97 = head_of_part part.0 outcome.text line part.1 (line_head kind steps) in
    let accepted = check_head words bytes is_check (sym (ap (λ (o : Outcome). get_or o.text 0 0) is) ∙ head) in
    let writes = means is_check (ap (λ (o : Outcome). o.status) is ∙ accepted.status_is) in
    let few : length bound.steps ≤ MAX_STEPS = few_steps (text_lines bytes) writes.0 in
    let text : outcome.text ≡ verdict_line (Accepted bound.kind (length bound.steps)) = ap (λ (o : Outcome). o.text) is ∙ accepted.text_is in
    let same : verdict_line (Accepted bound.kind (length bound.steps)) ≡ line =
    whole_line (verdict_line (Accepted bound.kind (length bound.steps))) line (accepted_line bound.kind (length bound.steps) few) (accepted_line kind steps small) part.0 (subst (λ t. take part.0 t ≡ line) text part.1) in
    (writes.0, same_bound bound.kind kind (length bound.steps) steps few small same (unnamed bound.first) writes.1)

-- where the sink is as it was, no line was written
pub line_unwritten : (words : List (List ℕ)) (bytes : List ℕ) (old : Option (List ℕ)) → LineMeans words bytes old old
line_unwritten words bytes old is_check kind steps small front was now =
    let line = verdict_line (Accepted kind steps) in
    let same : Some front ≡ Some (front ++ line) = sym was ∙ now in
    absurd (nothing_appended (Some front) (Some front) front line (filled line (line_head kind steps)) refl same refl)
