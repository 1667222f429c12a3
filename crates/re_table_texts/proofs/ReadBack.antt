-- The text of a problem and a table is read as these.
use Rattle.std.proofs.Common.{◌≡◌, ℕ, ◌≤◌, ◌<◌, ◌+◌, Bool, true, false, cond, ◌&&◌, eqb, leb, List, [], ◌∷◌, ◌++◌, length, codes, decimal, refl, sym, ap, ◌∙◌, subst, arith, Option, Some, None, append-nil, append_assoc, length-append}
use Rattle.std.specs.Prelude.{Ok, Err}
use Rattle.std.specs.List.{AllByRecursion}
use Rattle.std.specs.Option.{option_and_then}
use Rattle.std.proofs.lemmas.Bool.Decides.{nat_tests}
use Rattle.re_algo.proofs.SlowerCode.{radius_small}
use Rattle.re_algo.specs.Tables.{AnswerTable, IsTable, views_of}
use Rattle.re_texts.proofs.ReadBack.{all_append, canonical_feeds, canonical_law, canonical_lines_law}
use Rattle.re_texts.specs.CanonicalLines.{IsWithinLimits, canonical_lines}
use Rattle.re_cert.specs.Entries.{image_labels, image_on, label_items}
use Rattle.re_labels.specs.PortLabels.{port_labels}
use Rattle.re_texts.proofs.EntryLines.{image_line_law}
use Rattle.re_texts.specs.CertificateLines.{IsRead}
use Rattle.re_problem.specs.Items.{ItemText}
use Rattle.re_labels.proofs.Tests.{eqb-same}
use Rattle.re_algo.proofs.CountCode.{listed-few}
use Rattle.re_algo.specs.Counting.{view_count}
use Rattle.re_problem.proofs.EndedLines.{NoFeed, lines_of-ended, no_feed}
use Rattle.re_problem.specs.CanonicalTexts.{canonical}
use Rattle.re_problem.specs.NamedProblems.{IsNamedProblem, NamedProblem}
use Rattle.re_problem.specs.ProblemTexts.{end_fault, fault_at, fault_or, first_fault, first_from, lines_of, problem_of}
use Rattle.re_problem.specs.declared.fault.InputFault.TheVariants.{BadEntry, BadSection}
use Rattle.re_problem.proofs.InnerLines.{inner_line, neither}
use Rattle.re_table_texts.proofs.JudgedLines.{table-filled, text-line, text-section}
use Rattle.re_table_texts.proofs.PrintedLines.{answer_lines, problem_line_feeds, table_line, table_line_feeds, table_lines, table_text_ended}
use Rattle.re_table_texts.specs.PrintedTables.{IsTableFor, TableTextLaw, answer_text, table_text}
use Rattle.re_table_texts.specs.SectionLines.{section_of}
use Rattle.re_table_texts.specs.TableTexts.{State, and_behind, are_all, behind, has_room, judged, may_stand, table_counted, table_input, table_of, takes_items, takes_labels, text_ends, text_of}
use Rattle.re_table_texts.specs.TableTexts.State.{InTable, InText, Start}
use Rattle.re_table_texts.specs.declared.sections.Section.TheVariants.{Table}
use Rattle.re_table_texts.specs.declared.table_texts.TableForm.{TableForm}
use Rattle.re_table_texts.specs.declared.table_texts.TableForm.TheVariants.{Faster, Plain, Slower}

-- ---- lines that are read one after another
-- reading the lines leads from one state to the other
record Leads (form : TableForm) (byte number : ℕ) (s : State) (lines : List (List ℕ)) (t : State) : Type 0 where
  next_byte : ℕ
  next_number : ℕ
  is : (rest : List (List ℕ)) → behind form byte number s (lines ++ rest) ≡ behind form next_byte next_number t rest

leads_nowhere : (form : TableForm) (byte number : ℕ) (s : State) → Leads form byte number s [] s
leads_nowhere form byte number s = record { next_byte = byte; next_number = number; is = λ rest. refl }

leads_one : (form : TableForm) (byte number : ℕ) (s : State) (line : List ℕ) (t : State) → judged form byte number s line ≡ Ok t → Leads form byte number s (line ∷ []) t
leads_one form byte number s line t e = record {
  next_byte = byte + length line + 1;
  next_number = number + 1;
  is = λ rest. ap (λ r. and_behind r (λ t. behind form (byte + length line + 1) (number + 1) t rest)) e;
}

leads_on : (form : TableForm) (byte number : ℕ) (s t u : State) (xs ys : List (List ℕ)) → Leads form byte number s xs t → ((b n : ℕ) → Leads form b n t ys u) → Leads form byte number s (xs ++ ys) u
leads_on form byte number s t u xs ys first next =
    let more = next first.next_byte first.next_number in
    record {
      next_byte = more.next_byte;
      next_number = more.next_number;
      is = λ rest. ap (behind form byte number s) (append_assoc xs ys rest) ∙ (first.is (ys ++ rest) ∙ more.is rest);
    }

-- ---- problem texts
module _ (form : TableForm) (text_byte text_line : ℕ) where
  text_read : (lines before : List (List ℕ)) (byte number : ℕ) → first_from text_byte text_line before lines ≡ None
      → Leads form byte number (InText None text_byte text_line before) lines (InText None text_byte text_line (before ++ lines)) × (end_fault text_line (before ++ lines) ≡ None)
  text_read [] before byte number none =
      let whole : before ≡ before ++ [] = sym (append-nil before) in (
        subst (λ all. Leads form byte number (InText None text_byte text_line before) [] (InText None text_byte text_line all)) whole (leads_nowhere form byte number (InText None text_byte text_line before)),
        subst (λ all. end_fault text_line all ≡ None) whole none,
      )
  text_read (line ∷ lines) before byte number none =
      let both = neither (fault_at text_byte text_line before line) (first_from text_byte text_line (before ++ line ∷ []) lines) none in
      let whole : (before ++ line ∷ []) ++ lines ≡ before ++ line ∷ lines = append_assoc before (line ∷ []) lines in
      let next : State = InText None text_byte text_line (before ++ line ∷ []) in
      let is : judged form byte number (InText None text_byte text_line before) line ≡ Ok next =
      text-line form byte number None text_byte text_line before line (inner_line text_byte text_line before line both.0) ∙ ap (λ f. fault_or f (Ok next)) both.0 in (
        subst (λ all. Leads form byte number (InText None text_byte text_line before) (line ∷ lines) (InText None text_byte text_line all)) whole
            (leads_on form byte number (InText None text_byte text_line before) next (InText None text_byte text_line ((before ++ line ∷ []) ++ lines)) (line ∷ []) lines
            (leads_one form byte number (InText None text_byte text_line before) line next is) (λ b n. (text_read lines (before ++ line ∷ []) b n both.1).0)),
        subst (λ all. end_fault text_line all ≡ None) whole (text_read lines (before ++ line ∷ []) byte number both.1).1,
      )

-- ---- tables
holds_all : (form : TableForm) → (form ≡ Slower → ⊥) → are_all form None ≡ true
holds_all Plain apart = refl
holds_all Faster apart = refl
holds_all Slower apart = absurd (apart refl)

problem_begun : (form : TableForm) → judged form 0 1 Start (codes "== problem") ≡ Ok (InText None (0 + length (codes "== problem") + 1) (1 + 1) [])
unfolding section_of
problem_begun form = refl

module _ (form : TableForm) (problem : NamedProblem) (table : AnswerTable) (is : IsNamedProblem problem) (limits : IsWithinLimits problem) (table_is : IsTable table) (fits : IsTableFor problem table)
    (apart : form ≡ Slower → ⊥) (stands : may_stand form table.radius ≡ true) where
  a : ℕ
  a = problem.active.degree

  same_views : (answers : List (List ℕ)) → length (views_of (table_of problem table.radius answers)) ≡ length (views_of table)
  same_views answers = λ i. length (views_of (record { degrees = record { active = sym fits.active i; passive = sym fits.passive i }; radius = table.radius; answers = answers }))

  counted : view_count problem.active.degree problem.passive.degree table.radius ≡ Some (length (views_of (table_of problem table.radius [])))
  counted = listed-few (length (views_of (table_of problem table.radius []))) (let few = table_is.few in let same = same_views [] in omega arith)

  -- the section line of the table
  table_begun : (text_byte text_line byte number : ℕ) (text : List (List ℕ)) → end_fault text_line text ≡ None → problem_of text ≡ problem
      → Leads form byte number (InText None text_byte text_line text) ((codes "== table " ++ decimal table.radius) ∷ []) (InTable None problem table.radius [])
  table_begun text_byte text_line byte number text none problem_is =
      let line : List ℕ = codes "== table " ++ decimal table.radius in
      let next : ℕ = byte + length line + 1 in
      let named : section_of line ≡ Table table.radius = (table_line table.radius (let small = radius_small table table_is in omega arith)).named in
      leads_one form byte number (InText None text_byte text_line text) line (InTable None problem table.radius [])
      (text-section form byte number None text_byte text_line text line refl
      ∙ ((λ i. fault_or (none i) (text_ends form next number None (problem_is i) (named i)))
      ∙ ((λ i. cond (holds_all form apart i && stands i) (table_counted number None problem table.radius (view_count problem.active.degree problem.passive.degree table.radius)) (Err (BadSection number)))
      ∙ ap (table_counted number None problem table.radius) counted)))

  -- an answer
  labels_read : (labels : List ℕ) (items : List ItemText) (given : Option (List ℕ)) → option_and_then port_labels given ≡ Some labels → given ≡ Some labels
  labels_read labels items None e = absurd (cc)
  labels_read labels items (Some found) e = go (leb 2 (length found) && leb (length found) 6) e
    where
      go : (t : Bool) → cond t (Some found) None ≡ Some labels → Some found ≡ Some labels
      go true e = e
      go false e = absurd (cc)

  answer_read : (labels : List ℕ) (done : List (List ℕ)) (byte number : ℕ) → length labels ≡ problem.active.degree → AllByRecursion (λ label. label < length problem.names) labels
      → length done < length (views_of table)
      → NoFeed (answer_text problem.names labels) × (judged form byte number (InTable None problem table.radius done) (answer_text problem.names labels) ≡ Ok (InTable None problem table.radius (done ++ labels ∷ [])))
  answer_read labels done byte number count below room = go (image_line_law before problem labels is.names is.problem.active.least is.problem.active.most count below)
    where
      before : NamedProblem
      before = record { names = problem.names; active = problem.passive; passive = problem.active }

      line : List ℕ
      line = answer_text problem.names labels

      there : has_room (table_of problem table.radius done) ≡ true
      there = let same = same_views done in let below : length done < length (views_of (table_of problem table.radius done)) = omega arith in grind (arith, nat_tests)

      go : IsRead line × ((items : List ItemText) × (label_items line ≡ Some items) × (image_on before problem items ≡ Some labels))
          → NoFeed line × (judged form byte number (InTable None problem table.radius done) line ≡ Ok (InTable None problem table.radius (done ++ labels ∷ [])))
      go (read, (items, items_are, labels_are)) = (
        no_feed line read.one,
        table-filled byte number None problem table.radius done line read.inner None read.filled (sym read.allowed)
            ∙ (ap (takes_items number None problem table.radius done) items_are
            ∙ (ap (takes_labels number None problem table.radius done) (labels_read labels items (image_labels problem.names problem.active.degree items) labels_are)
            ∙ ap (λ t. cond t (Ok (InTable None problem table.radius (done ++ labels ∷ []))) (Err (BadEntry number))) there)),
      )

  answers_read : (answers done : List (List ℕ)) (byte number : ℕ) → AllByRecursion (λ labels. length labels ≡ table.degrees.active) answers → AllByRecursion (AllByRecursion (λ label. label < length problem.names)) answers
      → length (done ++ answers) ≤ length (views_of table)
      → AllByRecursion NoFeed (answer_lines problem.names answers) × Leads form byte number (InTable None problem table.radius done) (answer_lines problem.names answers) (InTable None problem table.radius (done ++ answers))
  answers_read [] done byte number ports labels few =
      (tt, subst (λ all. Leads form byte number (InTable None problem table.radius done) [] (InTable None problem table.radius all)) (sym (append-nil done)) (leads_nowhere form byte number (InTable None problem table.radius done)))
  answers_read (answer ∷ answers) done byte number ports labels few =
      let whole : (done ++ answer ∷ []) ++ answers ≡ done ++ answer ∷ answers = append_assoc done (answer ∷ []) answers in
      let size = length-append done (answer ∷ answers) in
      let room : length done < length (views_of table) = omega arith in
      let few' : length ((done ++ answer ∷ []) ++ answers) ≤ length (views_of table) = subst (λ all. length all ≤ length (views_of table)) (sym whole) few in
      let here = answer_read answer done byte number (ports.0 ∙ fits.active) labels.0 room in
      let later = λ (b n : ℕ). answers_read answers (done ++ answer ∷ []) b n ports.1 labels.1 few' in (
        (here.0, (later byte number).0),
        subst (λ all. Leads form byte number (InTable None problem table.radius done) (answer_lines problem.names (answer ∷ answers)) (InTable None problem table.radius all)) whole
            (leads_on form byte number (InTable None problem table.radius done) (InTable None problem table.radius (done ++ answer ∷ [])) (InTable None problem table.radius ((done ++ answer ∷ []) ++ answers))
            (answer_text problem.names answer ∷ []) (answer_lines problem.names answers)
            (leads_one form byte number (InTable None problem table.radius done) (answer_text problem.names answer) (InTable None problem table.radius (done ++ answer ∷ [])) here.1)
            (λ b n. (later b n).1)),
      )

  -- ---- the whole text
  lines_are : lines_of (canonical problem) ≡ canonical_lines problem
  lines_are = (canonical_lines_law problem is).1

  no_fault : (byte start : ℕ) → first_from byte start [] (canonical_lines problem) ≡ None
  no_fault byte start = ap (first_fault byte start) (sym lines_are) ∙ (canonical_law problem is limits).0 byte start

  problem_is : problem_of (canonical_lines problem) ≡ problem
  problem_is = ap problem_of (sym lines_are) ∙ (canonical_law problem is limits).1

  whole_feeds : AllByRecursion NoFeed (table_lines problem table)
  whole_feeds = (
    problem_line_feeds,
    all_append NoFeed (canonical_lines problem) ((codes "== table " ++ decimal table.radius) ∷ answer_lines problem.names table.answers) (canonical_feeds problem is)
        (table_line_feeds table.radius (let small = radius_small table table_is in omega arith), (answers_read table.answers [] 0 0 table_is.ports fits.labels (let count = table_is.count in omega arith)).0),
  )

  whole_leads : Leads form 0 1 Start (table_lines problem table) (InTable None problem table.radius table.answers)
  whole_leads =
      let first : ℕ = 0 + length (codes "== problem") + 1 in
      let start : ℕ = 1 + 1 in
      let read = λ (b n : ℕ). text_read form first start (canonical_lines problem) [] b n (no_fault first start) in
      leads_on form 0 1 Start (InText None first start []) (InTable None problem table.radius table.answers) (codes "== problem" ∷ []) (canonical_lines problem ++ (codes "== table " ++ decimal table.radius) ∷ answer_lines problem.names table.answers)
      (leads_one form 0 1 Start (codes "== problem") (InText None first start []) (problem_begun form))
      (λ b n. leads_on form b n (InText None first start []) (InText None first start (canonical_lines problem)) (InTable None problem table.radius table.answers) (canonical_lines problem) ((codes "== table " ++ decimal table.radius) ∷ answer_lines problem.names table.answers)
      (read b n).0
      (λ b n. leads_on form b n (InText None first start (canonical_lines problem)) (InTable None problem table.radius []) (InTable None problem table.radius table.answers) ((codes "== table " ++ decimal table.radius) ∷ []) (answer_lines problem.names table.answers)
      (table_begun first start b n (canonical_lines problem) (read 0 0).1 problem_is)
      (λ b n. (answers_read table.answers [] b n table_is.ports fits.labels (let count = table_is.count in omega arith)).1)))

  pub text_back : table_input form (table_text problem table) ≡ Ok (record { problem = problem; next = None; table = table })
  text_back =
      let lines : lines_of (table_text problem table) ≡ table_lines problem table = ap lines_of (table_text_ended problem table) ∙ lines_of-ended (table_lines problem table) whole_feeds in
      let same : table_of problem table.radius table.answers ≡ table = (λ i. record { degrees = record { active = sym fits.active i; passive = sym fits.passive i }; radius = table.radius; answers = table.answers }) in
      let all : eqb (length table.answers) (length (views_of table)) ≡ true = subst (λ n. eqb (length table.answers) n ≡ true) table_is.count (eqb-same (length table.answers)) in
      ap (behind form 0 1 Start) (lines ∙ sym (append-nil (table_lines problem table)))
      ∙ (whole_leads.is []
      ∙ ((λ i. cond (eqb (length table.answers) (length (views_of (same i)))) (Ok (text_of None problem (same i))) (Err (BadEntry whole_leads.next_number)))
      ∙ ap (λ t. cond t (Ok (text_of None problem table)) (Err (BadEntry whole_leads.next_number))) all))

pub table_text_law : TableTextLaw
table_text_law form problem table is limits table_is fits apart stands = text_back form problem table is limits table_is fits apart stands
