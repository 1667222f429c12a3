-- Which part a line brings in which section, and where the end comes.
use Rattle.std.proofs.Common.{◌≡◌, ℕ, ◌+◌, ◌≤◌, Bool, true, false, cond, List, [], ◌∷◌, ◌++◌, length, Option, Some, None, Result, Ok, Err, refl, sym, ap, ◌∙◌, subst, eqb, leb, ltb, is_some, ◌||◌, ◌⊎◌}
use Rattle.std.proofs.lemmas.Bool.{false≢true}
use Rattle.re_io.specs.LineReading.{LineText, line_bytes}
use Rattle.re_problem.specs.Bytes.{bad_byte, is_empty_line}
use Rattle.re_problem.specs.Items.{ItemText}
use Rattle.re_problem.specs.ProblemTexts.{byte_fault, end_fault, fault_at, fault_or, line_items, problem_of}
use Rattle.re_problem.specs.Steps.{SetEntry}
use Rattle.re_problem.specs.declared.fault.InputFault.{InputFault}
use Rattle.re_problem.specs.declared.fault.InputFault.TheVariants.{BadBack, BadItem, TooManyRows, TooManySteps}
use Rattle.re_cert.proofs.Accounts.{is_first, line_accounted, with_brought}
use Rattle.re_cert.proofs.Feeding.{one_behind}
use Rattle.re_cert.specs.Bounds.{is_fixed, is_lower, last_problem, problem_at}
use Rattle.re_cert.specs.CertificateReading.{has_first}
use Rattle.re_cert.specs.CertificateTexts.{Brought, Part, State, and_behind, bad_section, begins, begins_text, behind, brings, goes_on, has_ended, has_images, in_phase, in_section, in_text, joined, judged, judged_in, map_begins, part_at, part_from, part_in, past, renaming_ends, set_and_label, silent, start, step_begins, takes_entry, takes_image, takes_items, takes_labels, takes_mapped, takes_pair, takes_row, takes_singles, text_ends, whole_step}
use Rattle.re_cert.specs.CertificateTexts.Part.{First, Head, Next, Renaming}
use Rattle.re_cert.specs.Entries.{entry_on, image_on, label_items, labels_on, row_on}
use Rattle.re_problem.specs.Pairs.{ItemPair, pair_on}
use Rattle.re_cert.specs.SectionLines.{heading_of, is_end, section_of}
use Rattle.re_problem.specs.SectionLines.{is_section}
use Rattle.re_cert.specs.declared.cert_reader.Phase.{Phase}
use Rattle.re_cert.specs.declared.cert_reader.Phase.TheVariants as phase
use Rattle.re_cert.specs.declared.sections.Heading.{Heading}
use Rattle.re_cert.specs.declared.sections.Section.{Section}
use Rattle.re_cert.specs.declared.sections.Section.TheVariants as section
use Rattle.re_labels.specs.declared.TheConstants.{MAX_ROWS}

pub judged_of : (r : Result Brought InputFault) (t : State) → and_behind r (λ u. Ok u) ≡ Ok t → (brought : Brought) × (r ≡ Ok brought) × (brought.state ≡ t)
judged_of (Ok brought) t is = (brought, refl, (let same : brought.state ≡ t = cc in same))
judged_of (Err fault) t is = absurd (cc)

-- how far the lines are that lead to a section: at the header, in the first problem, behind it, or at the end
abbrev pub reach : Phase → ℕ
reach phase.Header = 0
reach phase.First = 1
reach phase.Ended = 3
reach phase.Next = 2
reach phase.Rows = 2
reach phase.Map = 2
reach phase.Back = 2

reach-end : (p : Phase) → has_ended p ≡ eqb (reach p) 3
reach-end phase.Header = refl
reach-end phase.First = refl
reach-end phase.Next = refl
reach-end phase.Rows = refl
reach-end phase.Map = refl
reach-end phase.Back = refl
reach-end phase.Ended = refl

pub same_end : (p q : Phase) → reach p ≡ reach q → has_ended p ≡ has_ended q
same_end p q same = reach-end p ∙ ap (λ n. eqb n 3) same ∙ sym (reach-end q)

-- a fixed point has not come to its end
abbrev pub GoesOn : State → Type 0
GoesOn t = has_ended t.phase ≡ true → is_fixed t.bound.kind ≡ false

-- the part stands in its section; a fixed point comes to its end with a renaming alone
abbrev pub IsPlaced : Phase → State → Option Part → Type 0
IsPlaced p t None = reach t.phase ≡ reach p
IsPlaced p t (Some (Head kind back)) = (p ≡ phase.Header) × (t.phase ≡ phase.First)
IsPlaced p t (Some (First problem)) = (p ≡ phase.First) × GoesOn t × (has_first t.phase ≡ true)
IsPlaced p t (Some (Next s)) = (p ≡ phase.Map) × GoesOn t × (has_first t.phase ≡ true)
IsPlaced p t (Some (Renaming pairs)) = (p ≡ phase.Back) × (has_ended t.phase ≡ true)

abbrev Placed : Phase → Result Brought InputFault → Type 0
Placed p (Ok brought) = IsPlaced p brought.state brought.part
Placed p (Err fault) = Unit {0}

by_test : (p : Phase) (t : Bool) (x y : Result Brought InputFault) → (t ≡ true → Placed p x) → (t ≡ false → Placed p y) → Placed p (cond t x y)
by_test p true x y a b = a refl
by_test p false x y a b = b refl

either : (p : Phase) (t : Bool) (x y : Result Brought InputFault) → Placed p x → Placed p y → Placed p (cond t x y)
either p true x y a b = a
either p false x y a b = b

unless : (p : Phase) (fault : Option InputFault) (x : Result Brought InputFault) → Placed p x → Placed p (fault_or fault x)
unless p None x a = a
unless p (Some fault) x a = tt

-- ---- section lines
of_header : (s : State) (heading : Option Heading) → Placed phase.Header (begins s heading)
of_header s None = tt
of_header s (Some heading) = (refl, refl)

-- a section line that ends a part, in a section where the part may stand
of_going : (p : Phase) (part : Part) (t : State) (sec : Section) → ((u : State) → GoesOn u → has_first u.phase ≡ true → IsPlaced p u (Some part)) → Placed p (goes_on part t sec)
of_going p part t section.Step may =
    either p (leb 64 (length t.bound.steps)) (Err (TooManySteps t.line)) (brings part (begins_text phase.Next t)) tt (may (begins_text phase.Next t) (λ ended. absurd (false≢true ended)) refl)
of_going p part t section.Back may =
    let back : State = record (in_phase phase.Back t) { pairs = [] } in
    let here : Result Brought InputFault = cond (ltb t.bound.back (length t.bound.steps)) (brings part back) (Err (BadBack t.line)) in
    either p (is_fixed t.bound.kind) here (bad_section t)
    (either p (ltb t.bound.back (length t.bound.steps)) (brings part back) (Err (BadBack t.line)) (may back (λ ended. absurd (false≢true ended)) refl) tt) tt
of_going p part t section.End may =
    by_test p (is_fixed t.bound.kind) (bad_section t) (brings part (in_phase phase.Ended t)) (λ fixed. tt) (λ loose. may (in_phase phase.Ended t) (λ ended. loose) refl)
of_going p part t section.Rows may = tt
of_going p part t section.Map may = tt
of_going p part t section.Other may = tt

of_next : (t : State) (sec : Section) → Placed phase.Next (step_begins t sec)
of_next t section.Rows = either phase.Next (is_lower t.bound.kind) (silent (in_phase phase.Rows t)) (bad_section t) refl tt
of_next t section.Map = either phase.Next (is_lower t.bound.kind) (bad_section t) (silent (in_phase phase.Map t)) tt refl
of_next t section.Step = tt
of_next t section.Back = tt
of_next t section.End = tt
of_next t section.Other = tt

of_rows_end : (t : State) (sec : Section) → Placed phase.Rows (map_begins t sec)
of_rows_end t section.Map = refl
of_rows_end t section.Step = tt
of_rows_end t section.Back = tt
of_rows_end t section.End = tt
of_rows_end t section.Rows = tt
of_rows_end t section.Other = tt

of_back_end : (t : State) (sec : Section) → Placed phase.Back (renaming_ends t sec)
of_back_end t section.End = (refl, refl)
of_back_end t section.Step = tt
of_back_end t section.Back = tt
of_back_end t section.Map = tt
of_back_end t section.Rows = tt
of_back_end t section.Other = tt

-- ---- lines of sections
module _ (p : Phase) (s : State) (is : reach s.phase ≡ reach p) where
  of_row : (t : Bool) (row : Option (List (List ℕ))) → Placed p (takes_row s t row)
  of_row false row = tt
  of_row true None = tt
  of_row true (Some row) = either p (leb MAX_ROWS (length s.rows)) (Err (TooManyRows s.line)) (silent (record s { rows = s.rows ++ row ∷ [] })) tt is

  of_entry : (entry : Option SetEntry) → Placed p (takes_entry s entry)
  of_entry None = tt
  of_entry (Some entry) = is

  of_set : (set label : ItemText) → Placed p (set_and_label s set label)
  of_set set label =
      let entry : Option SetEntry = entry_on (last_problem s.bound).names s.next.names set label in
      either p label.group (Err (BadItem s.line)) (takes_entry s entry) tt (of_entry entry)

  of_items : (pair : Option ItemPair) → Placed p (takes_items s pair)
  of_items None = tt
  of_items (Some pair) =
      either p (is_lower s.bound.kind) (set_and_label s pair.left pair.right) (set_and_label s pair.right pair.left) (of_set pair.left pair.right) (of_set pair.right pair.left)

  of_image : (image : Option (List ℕ)) → Placed p (takes_image s image)
  of_image None = tt
  of_image (Some image) = either p (leb MAX_ROWS (length s.images)) (Err (TooManyRows s.line)) (silent (record s { images = s.images ++ image ∷ [] })) tt is

  of_singles : (items : Option (List ItemText)) → Placed p (takes_singles s items)
  of_singles None = tt
  of_singles (Some items) = of_image (image_on (last_problem s.bound) s.next items)

  of_mapped : (text : List ℕ) → Placed p (takes_mapped s text)
  of_mapped text = either p (has_images s) (takes_singles s (label_items text)) (takes_items s (pair_on text)) (of_singles (label_items text)) (of_items (pair_on text))

  of_pair : (pair : Option (ℕ × ℕ)) → Placed p (takes_pair s pair)
  of_pair None = tt
  of_pair (Some pair) = is

  of_labels : (pair : Option ItemPair) → Placed p (takes_labels s pair)
  of_labels None = tt
  of_labels (Some pair) =
      let labels : Option (ℕ × ℕ) = labels_on (last_problem s.bound).names (problem_at s.bound s.bound.back).names pair in
      either p (pair.left.group || pair.right.group) (Err (BadItem s.line)) (takes_pair s labels) tt (of_pair labels)

-- ---- a line
module _ (s : State) (text : List ℕ) (size : ℕ) where
  of_empty : (p : Phase) (x : Result Brought InputFault) → s.phase ≡ p → Placed p x → Placed p (cond (is_empty_line text) (silent (past s size)) x)
  of_empty p x is a = either p (is_empty_line text) (silent (past s size)) x (ap reach is) a

  of_section : (p : Phase) (x : Result Brought InputFault) → s.phase ≡ p → Placed p x → Placed p (in_section s text size x)
  of_section p x is a = of_empty p (fault_or (byte_fault s.byte (bad_byte text)) x) is (unless p (byte_fault s.byte (bad_byte text)) x a)

  of_text : (p : Phase) → s.phase ≡ p → Placed p (in_text s text size)
  of_text p is = unless p (fault_at s.text_byte s.text_line s.text text) (silent (record (past s size) { text = s.text ++ text ∷ [] })) (ap reach is)

  ending : (p : Phase) (x : Result Brought InputFault) → Placed p x → Placed p (text_ends s x)
  ending p x a = unless p (end_fault s.text_line s.text) x a

  of_phase : (p : Phase) → s.phase ≡ p → Placed p (judged_in p s text size)
  of_phase phase.Header is = of_empty phase.Header (begins (past s size) (heading_of text)) is (of_header (past s size) (heading_of text))
  of_phase phase.First is =
      let part : Part = First (problem_of s.text) in
      let going : Result Brought InputFault = goes_on part (joined part (past s size)) (section_of text) in
      either phase.First (is_section text) (text_ends s going) (in_text s text size) (ending phase.First going (of_going phase.First part (joined part (past s size)) (section_of text) (λ u on has. (refl, on, has))))
      (of_text phase.First is)
  of_phase phase.Next is =
      let t : State = record (past s size) { next = problem_of s.text; rows = []; entries = []; images = [] } in
      either phase.Next (is_section text) (text_ends s (step_begins t (section_of text))) (in_text s text size) (ending phase.Next (step_begins t (section_of text)) (of_next t (section_of text)))
      (of_text phase.Next is)
  of_phase phase.Rows is =
      let row : Result Brought InputFault = takes_row (past s size) (is_some (line_items text)) (row_on (last_problem s.bound) text) in
      either phase.Rows (is_section text) (map_begins (past s size) (section_of text)) (in_section s text size row) (of_rows_end (past s size) (section_of text))
      (of_section phase.Rows row is (of_row phase.Rows (past s size) (ap reach is) (is_some (line_items text)) (row_on (last_problem s.bound) text)))
  of_phase phase.Map is =
      let part : Part = Next (whole_step s) in
      let going : Result Brought InputFault = goes_on part (joined part (past s size)) (section_of text) in
      either phase.Map (is_section text) going (in_section s text size (takes_mapped (past s size) text))
      (of_going phase.Map part (joined part (past s size)) (section_of text) (λ u on has. (refl, on, has)))
      (of_section phase.Map (takes_mapped (past s size) text) is (of_mapped phase.Map (past s size) (ap reach is) text))
  of_phase phase.Back is =
      either phase.Back (is_section text) (renaming_ends (past s size) (section_of text)) (in_section s text size (takes_labels (past s size) (pair_on text))) (of_back_end (past s size) (section_of text))
      (of_section phase.Back (takes_labels (past s size) (pair_on text)) is (of_labels phase.Back (past s size) (ap reach is) (pair_on text)))
  of_phase phase.Ended is = of_empty phase.Ended (bad_section (past s size)) is tt

placed : (s : State) (line : LineText) → Placed s.phase (judged s line)
placed s line =
    either s.phase (line.ended || is_end line.text || has_ended s.phase) (judged_in s.phase s line.text (length (line_bytes line))) (silent s)
    (of_phase s line.text (length (line_bytes line)) s.phase refl) refl

-- ---- a line behind lines
-- the line led from the one state to the other one, with this part
pub record Leads (s : State) (line : LineText) (t : State) (p : Option Part) : Type 0 where
  pub bound : t.bound ≡ with_brought s.bound p
  pub first : has_first t.phase ≡ true → (has_first s.phase ≡ true) ⊎ (is_first p ≡ true)
  pub placed : IsPlaced s.phase t p
  pub byte : t.byte ≤ s.byte + length (line_bytes line)

pub line_leads : (before : List LineText) (line : LineText) (s t : State) (p : Option Part) → behind before ≡ Ok s → behind (before ++ line ∷ []) ≡ Ok t → p ≡ part_at before line → Leads s line t p
line_leads before line s t p was is part =
    let b = judged_of (judged s line) t (sym (one_behind start s before line was) ∙ is) in
    let a = line_accounted s line b.0 b.1 in
    let same : p ≡ b.0.part = part ∙ ap (λ r. part_from r line) was ∙ ap part_in b.1 in
    let here : Leads s line b.0.state b.0.part = record { bound = a.bound; first = a.first; placed = subst (Placed s.phase) b.1 (placed s line); byte = a.byte } in
    subst (λ u. Leads s line u p) b.2 (subst (Leads s line b.0.state) (sym same) here)
