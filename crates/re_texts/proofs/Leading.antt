-- Lines that are read one after another, none of which has a fault.
use Rattle.std.proofs.lemmas.List.{map-append}
use Rattle.std.proofs.Common.{◌≡◌, ℕ, ◌+◌, Bool, true, false, cond, eqb, List, [], ◌∷◌, ◌++◌, length, map, refl, sym, ap, ◌∙◌, subst, None, Result, Ok, Err, append-nil, append_assoc}
use Rattle.std.specs.List.{AllByRecursion}
use Rattle.std.proofs.lemmas.Bool.{false≢true}
use Rattle.re_io.specs.LineReading.{LineText}
use Rattle.re_labels.proofs.Membership.{AllByRecursion-weaker}
use Rattle.re_texts.proofs.BlocksWritten.{block_written}
use Rattle.re_texts.proofs.ReadBack.{canonical_law, canonical_lines_law, all_append}
use Rattle.re_texts.specs.CanonicalLines.{block_lines, canonical_lines}
use Rattle.re_problem.proofs.EndedLines.{NoFeed, no_feed, parts-ended}
use Rattle.re_problem.specs.CanonicalTexts.{canonical}
use Rattle.re_problem.specs.NamedProblems.{NamedProblem}
use Rattle.re_problem.specs.ProblemTexts.{end_fault, ended, fault_at, fault_or, first_fault, first_from, lines_of, problem_of}
use Rattle.re_problem.specs.declared.fault.InputFault.{InputFault}
use Rattle.re_cert.specs.Bounds.{Bound}
use Rattle.re_cert.specs.CertificateReading.{reads_text}
use Rattle.re_cert.specs.CertificateTexts.{Brought, State, and_behind, behind_from, in_text, judged, judged_in, lines_in, past, silent, text_lines}
use Rattle.re_problem.proofs.InnerLines.{inner_line, neither}
use Rattle.re_problem.specs.SectionLines.{is_section}
use Rattle.re_cert.specs.declared.cert_reader.Phase.{Phase}
use Rattle.re_cert.specs.declared.cert_reader.Phase.TheVariants as phase
use Rattle.re_texts.specs.CertificateLines.{IsOneLine}
use Rattle.re_texts.specs.PrintedCertificates.{IsHeld}

-- ---- tests
pub unlike : {X : Type 0} (t : Bool) (x y : X) → t ≡ false → cond t x y ≡ y
unlike t x y is = ap (λ b. cond b x y) is

-- ---- lines without line feeds
-- a line that its line feed has ended
abbrev pub whole : List ℕ → LineText
whole text = record { text = text; ended = true }

pub from_no_feed : (line : List ℕ) → NoFeed line → IsOneLine line
from_no_feed line none = AllByRecursion-weaker (λ b. eqb b 10 ≡ false) (λ b. b ≡ 10 → ⊥) (λ b other same. false≢true (sym other ∙ ap (λ x. eqb x 10) same)) line none

whole_lines : (lines : List (List ℕ)) → lines_in (lines ++ [] ∷ []) ≡ map whole lines
whole_lines [] = refl
whole_lines (line ∷ []) = refl
whole_lines (line ∷ next ∷ lines) = ap (λ l. whole line ∷ l) (whole_lines (next ∷ lines))

-- the lines of a text of lines that line feeds end
pub ended_lines : (lines : List (List ℕ)) → AllByRecursion IsOneLine lines → text_lines (ended lines) ≡ map whole lines
ended_lines lines one = ap lines_in (parts-ended lines (AllByRecursion-weaker IsOneLine NoFeed no_feed lines one)) ∙ whole_lines lines

-- ---- lines that are read
-- the lines have no line feeds, and reading them leads from the state to one of this kind
pub record Leads (s : State) (lines : List (List ℕ)) (P : State → Type 0) : Type 0 where
  pub one : AllByRecursion IsOneLine lines
  pub state : State
  pub is : behind_from s (map whole lines) ≡ Ok state
  pub at : P state

behind_more : (s t : State) (xs ys : List LineText) → behind_from s xs ≡ Ok t → behind_from s (xs ++ ys) ≡ behind_from t ys
behind_more s t [] ys is = let same : s ≡ t = cc in ap (λ u. behind_from u ys) same
behind_more s t (line ∷ xs) ys is = go (judged s line) is (λ u. behind_more u t xs ys)
  where
    go : (r : Result Brought InputFault) → and_behind r (λ u. behind_from u xs) ≡ Ok t → ((u : State) → behind_from u xs ≡ Ok t → behind_from u (xs ++ ys) ≡ behind_from t ys)
        → and_behind r (λ u. behind_from u (xs ++ ys)) ≡ behind_from t ys
    go (Ok brought) is rest = rest brought.state is
    go (Err fault) is rest = absurd (cc)

pub leads_nowhere : (s : State) (P : State → Type 0) → P s → Leads s [] P
leads_nowhere s P at = record { one = tt; state = s; is = refl; at = at }

pub leads_one : (s : State) (line : List ℕ) (brought : Brought) (P : State → Type 0) → IsOneLine line → judged s (whole line) ≡ Ok brought → P brought.state → Leads s (line ∷ []) P
leads_one s line brought P one is at = record { one = (one, tt); state = brought.state; is = ap (λ r. and_behind r (λ u. Ok u)) is; at = at }

pub leads_on : (s : State) (xs ys : List (List ℕ)) (P Q : State → Type 0) → Leads s xs P → ((t : State) → P t → Leads t ys Q) → Leads s (xs ++ ys) Q
leads_on s xs ys P Q first next =
    let more = next first.state first.at in
    record {
      one = all_append IsOneLine xs ys first.one more.one;
      state = more.state;
      is = ap (behind_from s) (map-append whole xs ys) ∙ behind_more s first.state (map whole xs) (map whole ys) first.is ∙ more.is;
      at = more.at;
    }

pub leads_as : (s : State) (lines : List (List ℕ)) (P Q : State → Type 0) → Leads s lines P → ((t : State) → P t → Q t) → Leads s lines Q
leads_as s lines P Q leads weaker = record { one = leads.one; state = leads.state; is = leads.is; at = weaker leads.state leads.at }

-- how many bytes a line has with its line feed
abbrev pub size : List ℕ → ℕ
size line = length (line ++ 10 ∷ [])

pub here : (s : State) (line : List ℕ) (p : Phase) → s.phase ≡ p → judged s (whole line) ≡ judged_in p s line (size line)
here s line p is = ap (λ q. judged_in q s line (size line)) is

-- ---- problem texts
-- within a problem text, behind these lines of it
pub record InText (two : Bool) (p : Phase) (bound : Bound) (byte start : ℕ) (lines : List (List ℕ)) (s : State) : Type 0 where
  pub phase_is : s.phase ≡ p
  pub bound_is : s.bound ≡ bound
  pub byte_is : s.text_byte ≡ byte
  pub start_is : s.text_line ≡ start
  pub text_is : s.text ≡ lines
  pub by_row_is : s.by_row ≡ two

-- behind the whole text of a problem
pub record IsTextRead (two : Bool) (p : Phase) (bound : Bound) (problem : NamedProblem) (s : State) : Type 0 where
  pub phase_is : s.phase ≡ p
  pub bound_is : s.bound ≡ bound
  pub ends : end_fault s.text_line s.text ≡ None
  pub problem_is : problem_of s.text ≡ problem
  pub by_row_is : s.by_row ≡ two

text_line : (s : State) (line : List ℕ) (p : Phase) → reads_text p ≡ true → s.phase ≡ p → is_section line ≡ false → judged s (whole line) ≡ in_text s line (size line)
text_line s line phase.First reads is inner = here s line phase.First is ∙ unlike (is_section line) _ (in_text s line (size line)) inner
text_line s line phase.Next reads is inner = here s line phase.Next is ∙ unlike (is_section line) _ (in_text s line (size line)) inner
text_line s line phase.Header reads is inner = absurd (false≢true reads)
text_line s line phase.Rows reads is inner = absurd (false≢true reads)
text_line s line phase.Map reads is inner = absurd (false≢true reads)
text_line s line phase.Back reads is inner = absurd (false≢true reads)
text_line s line phase.Ended reads is inner = absurd (false≢true reads)

module _ (two : Bool) (p : Phase) (reads : reads_text p ≡ true) (bound : Bound) (byte start : ℕ) where
  text_read : (lines before : List (List ℕ)) (s : State) → AllByRecursion IsOneLine lines → InText two p bound byte start before s → first_from byte start before lines ≡ None
      → Leads s lines (λ t. InText two p bound byte start (before ++ lines) t × (end_fault start (before ++ lines) ≡ None))
  text_read [] before s one at none =
      leads_nowhere s (λ t. InText two p bound byte start (before ++ []) t × (end_fault start (before ++ []) ≡ None))
      (subst (λ all. InText two p bound byte start all s × (end_fault start all ≡ None)) (sym (append-nil before)) (at, none))
  text_read (line ∷ lines) before s one at none =
      let both = neither (fault_at byte start before line) (first_from byte start (before ++ line ∷ []) lines) none in
      let t : State = record (past s (size line)) { text = s.text ++ line ∷ [] } in
      let fault : fault_at s.text_byte s.text_line s.text line ≡ None = (λ i. fault_at (at.byte_is i) (at.start_is i) (at.text_is i) line) ∙ both.0 in
      let is : judged s (whole line) ≡ silent t = text_line s line p reads at.phase_is (inner_line byte start before line both.0) ∙ ap (λ f. fault_or f (silent t)) fault in
      let next : InText two p bound byte start (before ++ line ∷ []) t =
      record { phase_is = at.phase_is; bound_is = at.bound_is; byte_is = at.byte_is; start_is = at.start_is; text_is = ap (λ text. text ++ line ∷ []) at.text_is; by_row_is = at.by_row_is } in
      subst (λ all. Leads s (line ∷ lines) (λ u. InText two p bound byte start all u × (end_fault start all ≡ None))) (append_assoc before (line ∷ []) lines)
      (leads_on s (line ∷ []) lines (λ u. u ≡ t) (λ u. InText two p bound byte start ((before ++ line ∷ []) ++ lines) u × (end_fault start ((before ++ line ∷ []) ++ lines) ≡ None))
      (leads_one s line (record { part = None; state = t }) (λ u. u ≡ t) one.0 is refl)
      (λ u same. text_read lines (before ++ line ∷ []) u one.1 (subst (λ (v : State). InText two p bound byte start (before ++ line ∷ []) v) (sym same) next) both.1))

  canonical_one : (problem : NamedProblem) → IsHeld problem → AllByRecursion IsOneLine (canonical_lines problem)
  canonical_one problem held =
      let is = held.0 in
      let active = (block_written problem.names problem.active is.names is.problem.active).feed in
      let passive = (block_written problem.names problem.passive is.names is.problem.passive).feed in
      AllByRecursion-weaker NoFeed IsOneLine from_no_feed (canonical_lines problem) (all_append NoFeed (block_lines problem.names problem.active) ([] ∷ block_lines problem.names problem.passive) active (tt, passive))

  -- the canonical text of a problem is read
  pub problem_read : (problem : NamedProblem) (s : State) → IsHeld problem → InText two p bound byte start [] s → Leads s (canonical_lines problem) (IsTextRead two p bound problem)
  problem_read problem s held at =
      let law = canonical_law problem held.0 held.1 in
      let lines : lines_of (canonical problem) ≡ canonical_lines problem = (canonical_lines_law problem held.0).1 in
      let none : first_from byte start [] (canonical_lines problem) ≡ None = ap (first_fault byte start) (sym lines) ∙ law.0 byte start in
      let is : problem_of (canonical_lines problem) ≡ problem = ap problem_of (sym lines) ∙ law.1 in
      leads_as s (canonical_lines problem) (λ t. InText two p bound byte start (canonical_lines problem) t × (end_fault start (canonical_lines problem) ≡ None)) (IsTextRead two p bound problem)
      (text_read (canonical_lines problem) [] s (canonical_one problem held) at none)
      (λ t read. record {
        phase_is = read.0.phase_is;
        bound_is = read.0.bound_is;
        ends = (λ i. end_fault (read.0.start_is i) (read.0.text_is i)) ∙ read.1;
        problem_is = ap problem_of read.0.text_is ∙ is;
        by_row_is = read.0.by_row_is;
      })
