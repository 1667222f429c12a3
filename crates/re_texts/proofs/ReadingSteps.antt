-- The sections of the steps of a certificate are read as its steps.
use Rattle.re_texts.proofs.LineWords.{one_line}
use Rattle.re_texts.proofs.HeaderLines.{chosen}
use Rattle.std.proofs.Common.{◌≡◌, ℕ, ◌<◌, ◌≤◌, Bool, true, false, cond, not, ◌&&◌, leb, List, [], ◌∷◌, ◌++◌, length, length-append, map, refl, sym, ap, ◌∙◌, subst, arith, None, Some, is_some, Err, Result, codes, append-nil, append_assoc}
use Rattle.std.specs.List.{AllByRecursion}
use Rattle.std.proofs.lemmas.Bool.{false≢true, lt-leb}
use Rattle.std.proofs.lemmas.Bool.Decides.{nat_tests}
use Rattle.re_labels.proofs.Tests.{and-true}
use Rattle.re_labels.specs.Rows.{IsRow}
use Rattle.re_problem.specs.Bytes.{bad_byte, is_empty_line}
use Rattle.re_problem.specs.Items.{ItemText}
use Rattle.re_texts.specs.CanonicalLines.{canonical_lines}
use Rattle.re_texts.specs.SetTexts.{row_text}
use Rattle.re_problem.specs.NamedProblems.{NamedProblem}
use Rattle.re_problem.specs.ProblemTexts.{byte_fault, fault_or, last_or, line_items, problem_of}
use Rattle.re_problem.specs.Steps.LowerMap.{by_row, by_set}
use Rattle.re_problem.specs.Steps.{LowerMap, SetEntry}
use Rattle.re_problem.specs.declared.fault.InputFault.{InputFault}
use Rattle.re_problem.specs.declared.fault.InputFault.TheVariants.{BadItem, TooManyRows, TooManySteps}
use Rattle.re_cert.specs.Bounds.{Bound, BoundStep, entries_in, is_by_row, is_lower, last_problem, map_fits, next_problems, step_fits, steps_fit}
use Rattle.re_cert.specs.CertificateTexts.{Brought, Part, State, bad_section, begins_text, brings, goes_on, has_images, in_phase, in_section, joined, judged, map_begins, past, set_and_label, silent, step_begins, takes_entry, takes_image, takes_items, takes_mapped, takes_row, takes_singles, text_ends, whole_step}
use Rattle.re_cert.specs.CertificateTexts.Part.{First, Next}
use Rattle.re_cert.specs.Entries.{entry_on, image_on, label_items, row_on}
use Rattle.re_problem.specs.Pairs.{ItemPair, pair_on}
use Rattle.re_cert.specs.SectionLines.{section_of}
use Rattle.re_problem.specs.SectionLines.{is_section}
use Rattle.re_cert.specs.declared.cert_reader.Phase.{Phase}
use Rattle.re_cert.specs.declared.cert_reader.Phase.TheVariants as phase
use Rattle.re_texts.specs.CertificateLines.{AreEntryRead, EntryLineLaw, ImageLineLaw, IsEntryRead, IsRead, RowLineLaw, SectionLineLaw, entry_text, image_text}
use Rattle.re_texts.proofs.FittingParts.{HeldEntry, HeldImage, entries_held, images_held, rows_held, step_parts}
use Rattle.re_texts.proofs.Leading.{InText, IsTextRead, Leads, here, leads_as, leads_nowhere, leads_on, leads_one, problem_read, size, unlike, whole}
use Rattle.re_texts.specs.PrintedCertificates.{IsHeld, IsHeldStep, IsLabelled}
use Rattle.re_labels.specs.declared.TheConstants.{MAX_ROWS}
use Rattle.re_cert.specs.declared.certificate.TheConstants.{MAX_STEPS}

-- ---- lines
-- the lines of a step: its section line, those of its problem, of its rows, and of its map
abbrev pub rows_lines : Bool → List (List ℕ) → List (List (List ℕ)) → List (List ℕ)
rows_lines lower before rows = cond lower (codes "== rows" ∷ map (row_text before) rows) []

abbrev pub map_lines : Bool → List (List ℕ) → List (List ℕ) → LowerMap → List (List ℕ)
map_lines lower before next (by_set entries) = map (entry_text lower before next) entries
map_lines lower before next (by_row images) = map (image_text next) images

abbrev pub step_lines : NamedProblem → BoundStep → List (List ℕ)
step_lines before s =
    codes "== step" ∷ (canonical_lines s.next ++ (rows_lines s.lower before.names s.rows ++ (codes "== map" ∷ map_lines s.lower before.names s.next.names s.map)))

abbrev pub steps_lines : NamedProblem → List BoundStep → List (List ℕ)
steps_lines before [] = []
steps_lines before (s ∷ steps) = step_lines before s ++ steps_lines s.next steps

-- ---- where lines lead
-- the next section line ends a part, with which this is the bound; whether maps are by rows was said in the header
pub record Due (two : Bool) (bound : Bound) (s : State) : Type 0 where
  pub part : Part
  pub behind : List ℕ → State
  pub goes : (line : List ℕ) → is_section line ≡ true → judged s (whole line) ≡ goes_on part (behind line) (section_of line)
  pub bound_is : (line : List ℕ) → (behind line).bound ≡ bound
  pub by_row_is : (line : List ℕ) → (behind line).by_row ≡ two

-- within a step that goes on, with these rows, entries and images so far
record InStep (two : Bool) (mapped : List (List ℕ)) (p : Phase) (bound : Bound) (following : NamedProblem) (held : List (List (List ℕ))) (done : List SetEntry) (s : State) : Type 0 where
  pub phase_is : s.phase ≡ p
  pub bound_is : s.bound ≡ bound
  pub next_is : s.next ≡ following
  pub rows_are : s.rows ≡ held
  pub entries_are : s.entries ≡ done
  pub images_are : s.images ≡ mapped
  pub by_row_is : s.by_row ≡ two

pub first_due : (two : Bool) (bound : Bound) (problem : NamedProblem) (s : State) → IsTextRead two phase.First bound problem s → Due two (record bound { first = problem }) s
first_due two bound problem s at =
    let given : Part = First (problem_of s.text) in
    let past_line : List ℕ → State = λ (line : List ℕ). joined given (past s (size line)) in
    record {
      part = given;
      behind = past_line;
      goes = λ line is. here s line phase.First at.phase_is ∙ chosen (is_section line) (text_ends s (goes_on given (past_line line) (section_of line))) _ is
          ∙ ap (λ f. fault_or f (goes_on given (past_line line) (section_of line))) at.ends;
      bound_is = λ line. (λ i. record (at.bound_is i) { first = at.problem_is i });
      by_row_is = λ line. at.by_row_is;
    }

map_due : (two : Bool) (images : List (List ℕ)) (bound : Bound) (following : NamedProblem) (rows : List (List (List ℕ))) (entries : List SetEntry) (s : State) → InStep two images phase.Map bound following rows entries s
    → Due two (record bound { steps = bound.steps ++ record { lower = is_lower bound.kind; next = following; rows = rows; map = cond (two && is_lower bound.kind) (by_row images) (by_set entries) } ∷ [] }) s
map_due two images bound following rows entries s at =
    let given : Part = Next (whole_step s) in
    let past_line : List ℕ → State = λ (line : List ℕ). joined given (past s (size line)) in
    record {
      part = given;
      behind = past_line;
      goes = λ line is. here s line phase.Map at.phase_is ∙ chosen (is_section line) (goes_on given (past_line line) (section_of line)) _ is;
      bound_is = λ line. (λ i. record (at.bound_is i) {
        steps = (at.bound_is i).steps ++ record { lower = is_lower (at.bound_is i).kind; next = at.next_is i; rows = at.rows_are i; map = cond (at.by_row_is i && is_lower (at.bound_is i).kind) (by_row (at.images_are i)) (by_set (at.entries_are i)) } ∷ [];
      });
      by_row_is = λ line. at.by_row_is;
    }

-- a line of a section that is read
pub section_line : (s : State) (line : List ℕ) (x : Result Brought InputFault) → IsRead line → in_section s line (size line) x ≡ x
section_line s line x read =
    unlike (is_empty_line line) (silent (past s (size line))) (fault_or (byte_fault s.byte (bad_byte line)) x) read.filled ∙ ap (λ f. fault_or (byte_fault s.byte f) x) read.allowed

room_for : {X : Type 0} (most : ℕ) (done : List X) (x : X) (rest : List X) → length (done ++ x ∷ rest) ≤ most → length done < most
room_for most done x rest few = omega (arith, length-append done (x ∷ rest))

-- the bound with the steps so far, before its renaming
abbrev pub with_steps : Bound → List BoundStep → Bound
with_steps bound done = record bound { steps = done; renaming = [] }

module _ (rows_law : RowLineLaw) (entries_law : EntryLineLaw) (images_law : ImageLineLaw) (sections : SectionLineLaw) (two : Bool) where
  -- ---- section lines
  step_begun : (bound : Bound) (s : State) → Due two bound s → length bound.steps < MAX_STEPS → Leads s (codes "== step" ∷ []) (λ t. InText two phase.Next bound t.text_byte t.text_line [] t)
  step_begun bound s due room =
      let line : List ℕ = codes "== step" in
      let u : State = due.behind line in
      let few : leb MAX_STEPS (length u.bound.steps) ≡ false = ap (λ (b : Bound). leb MAX_STEPS (length b.steps)) (due.bound_is line) ∙ lt-leb MAX_STEPS (length bound.steps) room in
      leads_one s line (record { part = Some due.part; state = begins_text phase.Next u }) (λ t. InText two phase.Next bound t.text_byte t.text_line [] t) (one_line line refl)
      (due.goes line refl ∙ ap (goes_on due.part u) sections.0 ∙ unlike (leb MAX_STEPS (length u.bound.steps)) (Err (TooManySteps u.line)) (brings due.part (begins_text phase.Next u)) few)
      (record { phase_is = refl; bound_is = due.bound_is line; byte_is = refl; start_is = refl; text_is = refl; by_row_is = due.by_row_is line })

  module _ (bound : Bound) (following : NamedProblem) where
    rows_begun : (s : State) → IsTextRead two phase.Next bound following s → is_lower bound.kind ≡ true → Leads s (codes "== rows" ∷ []) (InStep two [] phase.Rows bound following [] [])
    rows_begun s at lower =
        let line : List ℕ = codes "== rows" in
        let t : State = record (past s (size line)) { next = problem_of s.text; rows = []; entries = []; images = [] } in
        leads_one s line (record { part = None; state = in_phase phase.Rows t }) (InStep two [] phase.Rows bound following [] []) (one_line line refl)
        (here s line phase.Next at.phase_is ∙ ap (λ f. fault_or f (step_begins t (section_of line))) at.ends ∙ ap (step_begins t) sections.1
        ∙ chosen (is_lower t.bound.kind) (silent (in_phase phase.Rows t)) (bad_section t) (ap (λ (b : Bound). is_lower b.kind) at.bound_is ∙ lower))
        (record { phase_is = refl; bound_is = at.bound_is; next_is = at.problem_is; rows_are = refl; entries_are = refl; images_are = refl; by_row_is = at.by_row_is })

    map_begun : (s : State) → IsTextRead two phase.Next bound following s → is_lower bound.kind ≡ false → Leads s (codes "== map" ∷ []) (InStep two [] phase.Map bound following [] [])
    map_begun s at upper =
        let line : List ℕ = codes "== map" in
        let t : State = record (past s (size line)) { next = problem_of s.text; rows = []; entries = []; images = [] } in
        leads_one s line (record { part = None; state = in_phase phase.Map t }) (InStep two [] phase.Map bound following [] []) (one_line line refl)
        (here s line phase.Next at.phase_is ∙ ap (λ f. fault_or f (step_begins t (section_of line))) at.ends ∙ ap (step_begins t) sections.2
        ∙ unlike (is_lower t.bound.kind) (bad_section t) (silent (in_phase phase.Map t)) (ap (λ (b : Bound). is_lower b.kind) at.bound_is ∙ upper))
        (record { phase_is = refl; bound_is = at.bound_is; next_is = at.problem_is; rows_are = refl; entries_are = refl; images_are = refl; by_row_is = at.by_row_is })

    rows_ended : (rows : List (List (List ℕ))) (s : State) → InStep two [] phase.Rows bound following rows [] s → Leads s (codes "== map" ∷ []) (InStep two [] phase.Map bound following rows [])
    rows_ended rows s at =
        let line : List ℕ = codes "== map" in
        let t : State = past s (size line) in
        leads_one s line (record { part = None; state = in_phase phase.Map t }) (InStep two [] phase.Map bound following rows []) (one_line line refl)
        (here s line phase.Rows at.phase_is ∙ ap (map_begins t) sections.2)
        (record { phase_is = refl; bound_is = at.bound_is; next_is = at.next_is; rows_are = at.rows_are; entries_are = at.entries_are; images_are = at.images_are; by_row_is = at.by_row_is })

    -- ---- rows and entries
    module _ (before : NamedProblem) (held : IsHeld before) (last_is : last_problem bound ≡ before) where
      row_read : (row : List (List ℕ)) (done : List (List (List ℕ))) (s : State) → InStep two [] phase.Rows bound following done [] s → length done < MAX_ROWS
          → IsRow before.passive.degree (length before.names) row → Leads s (row_text before.names row ∷ []) (InStep two [] phase.Rows bound following (done ++ row ∷ []) [])
      row_read row done s at room is =
          let line : List ℕ = row_text before.names row in
          let constraint = held.0.problem.passive in
          let law = rows_law before row held.0.names constraint.least constraint.most is in
          let t : State = past s (size line) in
          let taken : takes_row t (is_some (line_items line)) (row_on (last_problem s.bound) line) ≡ takes_row t true (Some row) =
          (λ i. takes_row t (law.1 i) (row_on (last_problem (at.bound_is i)) line)) ∙ ap (λ b. takes_row t true (row_on b line)) last_is ∙ ap (takes_row t true) law.2 in
          let few : leb MAX_ROWS (length s.rows) ≡ false = ap (λ rows. leb MAX_ROWS (length rows)) at.rows_are ∙ lt-leb MAX_ROWS (length done) room in
          leads_one s line (record { part = None; state = record t { rows = s.rows ++ row ∷ [] } }) (InStep two [] phase.Rows bound following (done ++ row ∷ []) []) law.0.one
          (here s line phase.Rows at.phase_is
          ∙ unlike (is_section line) (map_begins t (section_of line)) (in_section s line (size line) (takes_row t (is_some (line_items line)) (row_on (last_problem s.bound) line))) law.0.inner
          ∙ section_line s line (takes_row t (is_some (line_items line)) (row_on (last_problem s.bound) line)) law.0 ∙ taken
          ∙ unlike (leb MAX_ROWS (length s.rows)) (Err (TooManyRows t.line)) (silent (record t { rows = s.rows ++ row ∷ [] })) few)
          (record { phase_is = at.phase_is; bound_is = at.bound_is; next_is = at.next_is; rows_are = ap (λ rows. rows ++ row ∷ []) at.rows_are; entries_are = at.entries_are; images_are = at.images_are; by_row_is = at.by_row_is })

      rows_read : (rows done : List (List (List ℕ))) (s : State) → InStep two [] phase.Rows bound following done [] s → length (done ++ rows) ≤ MAX_ROWS
          → AllByRecursion (IsRow before.passive.degree (length before.names)) rows → Leads s (map (row_text before.names) rows) (InStep two [] phase.Rows bound following (done ++ rows) [])
      rows_read [] done s at few are = leads_nowhere s (InStep two [] phase.Rows bound following (done ++ []) []) (subst (λ all. InStep two [] phase.Rows bound following all [] s) (sym (append-nil done)) at)
      rows_read (row ∷ rows) done s at few are =
          let all : (done ++ row ∷ []) ++ rows ≡ done ++ row ∷ rows = append_assoc done (row ∷ []) rows in
          subst (λ l. Leads s (map (row_text before.names) (row ∷ rows)) (InStep two [] phase.Rows bound following l [])) all
          (leads_on s (row_text before.names row ∷ []) (map (row_text before.names) rows) (InStep two [] phase.Rows bound following (done ++ row ∷ []) []) (InStep two [] phase.Rows bound following ((done ++ row ∷ []) ++ rows) [])
          (row_read row done s at (room_for MAX_ROWS done row rows few) are.0) (λ t behind. rows_read rows (done ++ row ∷ []) t behind (subst (λ l. length l ≤ MAX_ROWS) (sym all) few) are.1))

      module _ (rows : List (List (List ℕ))) (lower : Bool) (kind_is : is_lower bound.kind ≡ lower) (next_held : IsHeld following) where
        -- whether images stand in the map
        form_is : (s : State) (b : Bool) → s.bound ≡ bound → s.by_row ≡ two → (two && lower) ≡ b → has_images s ≡ b
        form_is s b bound_is by_row_is form = (λ i. by_row_is i && (ap (λ (b : Bound). is_lower b.kind) bound_is ∙ kind_is) i) ∙ form

        abbrev map_line : SetEntry → List ℕ
        map_line entry = entry_text lower before.names following.names entry

        set_taken : (t : State) (set label : ItemText) (entry : SetEntry) → last_problem t.bound ≡ before → t.next ≡ following → IsEntryRead before.names following.names entry set label
            → set_and_label t set label ≡ silent (record t { entries = t.entries ++ entry ∷ [] })
        set_taken t set label entry last next read =
            unlike label.group (Err (BadItem t.line)) (takes_entry t (entry_on (last_problem t.bound).names t.next.names set label)) read.single
            ∙ ap (takes_entry t) ((λ i. entry_on (last i).names (next i).names set label) ∙ read.entry_is)

        items_taken : (t : State) (b : Bool) (pair : ItemPair) (entry : SetEntry) → is_lower t.bound.kind ≡ b → last_problem t.bound ≡ before → t.next ≡ following
            → AreEntryRead b before.names following.names entry pair → takes_items t (Some pair) ≡ silent (record t { entries = t.entries ++ entry ∷ [] })
        items_taken t true pair entry kind last next read =
            chosen (is_lower t.bound.kind) (set_and_label t pair.left pair.right) (set_and_label t pair.right pair.left) kind ∙ set_taken t pair.left pair.right entry last next read
        items_taken t false pair entry kind last next read =
            unlike (is_lower t.bound.kind) (set_and_label t pair.left pair.right) (set_and_label t pair.right pair.left) kind ∙ set_taken t pair.right pair.left entry last next read

        entry_read : (two && lower) ≡ false → (entry : SetEntry) (done : List SetEntry) (s : State) → InStep two [] phase.Map bound following rows done s → HeldEntry before following entry
            → Leads s (map_line entry ∷ []) (InStep two [] phase.Map bound following rows (done ++ entry ∷ []))
        entry_read form entry done s at is =
            let line : List ℕ = map_line entry in
            let law = entries_law lower before.names following.names entry held.0.names next_held.0.names is.0 is.1 in
            let t : State = past s (size line) in
            let pair = law.1 in
            leads_one s line (record { part = None; state = record t { entries = s.entries ++ entry ∷ [] } }) (InStep two [] phase.Map bound following rows (done ++ entry ∷ [])) law.0.one
            (here s line phase.Map at.phase_is
            ∙ unlike (is_section line) (goes_on (Next (whole_step s)) (joined (Next (whole_step s)) t) (section_of line)) (in_section s line (size line) (takes_mapped t line)) law.0.inner
            ∙ section_line s line (takes_mapped t line) law.0 ∙ unlike (has_images t) (takes_singles t (label_items line)) (takes_items t (pair_on line)) (form_is t false at.bound_is at.by_row_is form) ∙ ap (takes_items t) pair.1
            ∙ items_taken t lower pair.0 entry (ap (λ (b : Bound). is_lower b.kind) at.bound_is ∙ kind_is) (ap last_problem at.bound_is ∙ last_is) at.next_is pair.2)
            (record { phase_is = at.phase_is; bound_is = at.bound_is; next_is = at.next_is; rows_are = at.rows_are; entries_are = ap (λ entries. entries ++ entry ∷ []) at.entries_are; images_are = at.images_are; by_row_is = at.by_row_is })

        entries_read : (two && lower) ≡ false → (entries done : List SetEntry) (s : State) → InStep two [] phase.Map bound following rows done s → AllByRecursion (HeldEntry before following) entries
            → Leads s (map map_line entries) (InStep two [] phase.Map bound following rows (done ++ entries))
        entries_read form [] done s at are = leads_nowhere s (InStep two [] phase.Map bound following rows (done ++ [])) (subst (λ all. InStep two [] phase.Map bound following rows all s) (sym (append-nil done)) at)
        entries_read form (entry ∷ entries) done s at are =
            subst (λ l. Leads s (map map_line (entry ∷ entries)) (InStep two [] phase.Map bound following rows l)) (append_assoc done (entry ∷ []) entries)
            (leads_on s (map_line entry ∷ []) (map map_line entries) (InStep two [] phase.Map bound following rows (done ++ entry ∷ [])) (InStep two [] phase.Map bound following rows ((done ++ entry ∷ []) ++ entries))
            (entry_read form entry done s at are.0) (λ t behind. entries_read form entries (done ++ entry ∷ []) t behind are.1))

        image_read : (two && lower) ≡ true → (image : List ℕ) (done : List (List ℕ)) (s : State) → InStep two done phase.Map bound following rows [] s → length done < MAX_ROWS → HeldImage before following image
            → Leads s (image_text following.names image ∷ []) (InStep two (done ++ image ∷ []) phase.Map bound following rows [])
        image_read form image done s at room is =
            let line : List ℕ = image_text following.names image in
            let constraint = held.0.problem.passive in
            let law = images_law before following image next_held.0.names constraint.least constraint.most is.0 is.1 in
            let t : State = past s (size line) in
            let items = law.1.0 in
            let few : leb MAX_ROWS (length s.images) ≡ false = ap (λ images. leb MAX_ROWS (length images)) at.images_are ∙ lt-leb MAX_ROWS (length done) room in
            leads_one s line (record { part = None; state = record t { images = s.images ++ image ∷ [] } }) (InStep two (done ++ image ∷ []) phase.Map bound following rows []) law.0.one
            (here s line phase.Map at.phase_is
            ∙ unlike (is_section line) (goes_on (Next (whole_step s)) (joined (Next (whole_step s)) t) (section_of line)) (in_section s line (size line) (takes_mapped t line)) law.0.inner
            ∙ section_line s line (takes_mapped t line) law.0 ∙ chosen (has_images t) (takes_singles t (label_items line)) (takes_items t (pair_on line)) (form_is t true at.bound_is at.by_row_is form)
            ∙ ap (takes_singles t) law.1.1
            ∙ ap (takes_image t) ((λ i. image_on ((ap last_problem at.bound_is ∙ last_is) i) (at.next_is i) items) ∙ law.1.2)
            ∙ unlike (leb MAX_ROWS (length s.images)) (Err (TooManyRows t.line)) (silent (record t { images = s.images ++ image ∷ [] })) few)
            (record { phase_is = at.phase_is; bound_is = at.bound_is; next_is = at.next_is; rows_are = at.rows_are; entries_are = at.entries_are; images_are = ap (λ images. images ++ image ∷ []) at.images_are; by_row_is = at.by_row_is })

        images_read : (two && lower) ≡ true → (images done : List (List ℕ)) (s : State) → InStep two done phase.Map bound following rows [] s → length (done ++ images) ≤ MAX_ROWS → AllByRecursion (HeldImage before following) images
            → Leads s (map (image_text following.names) images) (InStep two (done ++ images) phase.Map bound following rows [])
        images_read form [] done s at few are = leads_nowhere s (InStep two (done ++ []) phase.Map bound following rows []) (subst (λ all. InStep two all phase.Map bound following rows [] s) (sym (append-nil done)) at)
        images_read form (image ∷ images) done s at few are =
            let all : (done ++ image ∷ []) ++ images ≡ done ++ image ∷ images = append_assoc done (image ∷ []) images in
            subst (λ l. Leads s (map (image_text following.names) (image ∷ images)) (InStep two l phase.Map bound following rows [])) all
            (leads_on s (image_text following.names image ∷ []) (map (image_text following.names) images) (InStep two (done ++ image ∷ []) phase.Map bound following rows []) (InStep two ((done ++ image ∷ []) ++ images) phase.Map bound following rows [])
            (image_read form image done s at (room_for MAX_ROWS done image images few) are.0) (λ t behind. images_read form images (done ++ image ∷ []) t behind (subst (λ l. length l ≤ MAX_ROWS) (sym all) few) are.1))

        -- the lines of a map, in either form
        map_read : (m : LowerMap) (s : State) → is_by_row m ≡ (two && lower) → map_fits before following m ≡ true → AllByRecursion IsLabelled (entries_in m) → InStep two [] phase.Map bound following rows [] s
            → Leads s (map_lines lower before.names following.names m) (Due two (record bound { steps = bound.steps ++ record { lower = is_lower bound.kind; next = following; rows = rows; map = m } ∷ [] }))
        map_read (by_set entries) s form fits are at =
            leads_as s (map map_line entries) (InStep two [] phase.Map bound following rows entries) (Due two (record bound { steps = bound.steps ++ record { lower = is_lower bound.kind; next = following; rows = rows; map = by_set entries } ∷ [] }))
            (entries_read (sym form) entries [] s at (entries_held before following entries are fits))
            (λ w at. subst (λ m. Due two (record bound { steps = bound.steps ++ record { lower = is_lower bound.kind; next = following; rows = rows; map = m } ∷ [] }) w)
            (λ i. cond (((λ j. two && kind_is j) ∙ sym form) i) (by_row []) (by_set entries)) (map_due two [] bound following rows entries w at))
        map_read (by_row images) s form fits are at =
            let held_images = images_held before following images fits in
            leads_as s (map (image_text following.names) images) (InStep two images phase.Map bound following rows []) (Due two (record bound { steps = bound.steps ++ record { lower = is_lower bound.kind; next = following; rows = rows; map = by_row images } ∷ [] }))
            (images_read (sym form) images [] s at held_images.0 held_images.1)
            (λ w at. subst (λ m. Due two (record bound { steps = bound.steps ++ record { lower = is_lower bound.kind; next = following; rows = rows; map = m } ∷ [] }) w)
            (λ i. cond (((λ j. two && kind_is j) ∙ sym form) i) (by_row images) (by_set [])) (map_due two images bound following rows [] w at))

      -- the rows where it is a lower step, and the section line of the map
      rows_part : (lower : Bool) (rows : List (List (List ℕ))) (s : State) → is_lower bound.kind ≡ lower → (lower ≡ false → rows ≡ []) → length rows ≤ MAX_ROWS
          → AllByRecursion (IsRow before.passive.degree (length before.names)) rows → IsTextRead two phase.Next bound following s
          → Leads s (rows_lines lower before.names rows ++ codes "== map" ∷ []) (InStep two [] phase.Map bound following rows [])
      rows_part true rows s kind none few are at =
          leads_on s (codes "== rows" ∷ []) (map (row_text before.names) rows ++ codes "== map" ∷ []) (InStep two [] phase.Rows bound following [] []) (InStep two [] phase.Map bound following rows [])
          (rows_begun s at kind)
          (λ t begun. leads_on t (map (row_text before.names) rows) (codes "== map" ∷ []) (InStep two [] phase.Rows bound following rows []) (InStep two [] phase.Map bound following rows [])
          (rows_read rows [] t begun few are) (λ u behind. rows_ended rows u behind))
      rows_part false rows s kind none few are at = subst (λ l. Leads s (codes "== map" ∷ []) (InStep two [] phase.Map bound following l [])) (sym (none refl)) (map_begun s at kind)

  -- ---- steps
  same_lower : (a b c : Bool) → cond a b (not b && c) ≡ true → b ≡ a
  same_lower true true c is = refl
  same_lower true false c is = absurd (false≢true is)
  same_lower false true c is = absurd (false≢true is)
  same_lower false false c is = refl

  step_read : (bound : Bound) (before : NamedProblem) (done : List BoundStep) (step : BoundStep) (s : State) → last_or bound.first (next_problems done) ≡ before → IsHeld before
      → step_fits bound.kind before step ≡ true → IsHeldStep step → is_by_row step.map ≡ (two && is_lower bound.kind) → length done < MAX_STEPS → Due two (with_steps bound done) s → Leads s (step_lines before step) (Due two (with_steps bound (done ++ step ∷ [])))
  step_read bound before done step s last held fits is form room due =
      let here_bound : Bound = with_steps bound done in
      let parts = step_parts bound.kind before step fits in
      let kind : is_lower bound.kind ≡ step.lower = same_lower step.lower (is_lower bound.kind) (not (is_by_row step.map)) parts.0 in
      let mapped : List (List ℕ) = map_lines step.lower before.names step.next.names step.map in
      let map_part : List (List ℕ) = codes "== map" ∷ mapped in
      let rows : List (List ℕ) = rows_lines step.lower before.names step.rows in
      let goal : State → Type 0 = Due two (with_steps bound (done ++ step ∷ [])) in
      leads_on s (codes "== step" ∷ []) (canonical_lines step.next ++ (rows ++ map_part)) (λ t. InText two phase.Next here_bound t.text_byte t.text_line [] t) goal (step_begun here_bound s due room)
      (λ t begun. leads_on t (canonical_lines step.next) (rows ++ map_part) (IsTextRead two phase.Next here_bound step.next) goal
      (problem_read two phase.Next refl here_bound t.text_byte t.text_line step.next t is.next begun)
      (λ u read. subst (λ l. Leads u l goal) (append_assoc rows (codes "== map" ∷ []) mapped)
      (leads_on u (rows ++ codes "== map" ∷ []) mapped (InStep two [] phase.Map here_bound step.next step.rows []) goal
      (rows_part here_bound step.next before held last step.lower step.rows u kind is.upper parts.1 (rows_held before step.rows is.rows parts.2) read)
      (λ v begun_map. leads_as v mapped (Due two (record here_bound { steps = done ++ record { lower = is_lower bound.kind; next = step.next; rows = step.rows; map = step.map } ∷ [] })) goal
      (map_read here_bound step.next before held last step.rows step.lower kind is.next step.map v (form ∙ (λ i. two && kind i)) parts.3 is.sets begun_map)
      (λ w at. subst (λ b. Due two b w) (λ i. record here_bound { steps = done ++ record { lower = kind i; next = step.next; rows = step.rows; map = step.map } ∷ [] }) at)))))

  last_pushed : (first : NamedProblem) (done : List BoundStep) (step : BoundStep) → last_or first (next_problems (done ++ step ∷ [])) ≡ step.next
  last_pushed first [] step = refl
  last_pushed first (a ∷ []) step = refl
  last_pushed first (a ∷ b ∷ done) step = last_pushed first (b ∷ done) step

  pub steps_read : (bound : Bound) (before : NamedProblem) (rest done : List BoundStep) (s : State) → last_or bound.first (next_problems done) ≡ before → IsHeld before
      → steps_fit bound.kind before rest ≡ true → AllByRecursion IsHeldStep rest → AllByRecursion (λ (s : BoundStep). is_by_row s.map ≡ (two && is_lower bound.kind)) rest → length (done ++ rest) ≤ MAX_STEPS → Due two (with_steps bound done) s
      → Leads s (steps_lines before rest) (Due two (with_steps bound (done ++ rest)))
  steps_read bound before [] done s last held fits are form few due = leads_nowhere s (Due two (with_steps bound (done ++ []))) (subst (λ all. Due two (with_steps bound all) s) (sym (append-nil done)) due)
  steps_read bound before (step ∷ rest) done s last held fits are form few due =
      let both = and-true (step_fits bound.kind before step) (steps_fit bound.kind step.next rest) fits in
      let all : (done ++ step ∷ []) ++ rest ≡ done ++ step ∷ rest = append_assoc done (step ∷ []) rest in
      subst (λ l. Leads s (steps_lines before (step ∷ rest)) (Due two (with_steps bound l))) all
      (leads_on s (step_lines before step) (steps_lines step.next rest) (Due two (with_steps bound (done ++ step ∷ []))) (Due two (with_steps bound ((done ++ step ∷ []) ++ rest)))
      (step_read bound before done step s last held both.0 are.0 form.0 (room_for MAX_STEPS done step rest few) due)
      (λ t behind. steps_read bound step.next rest (done ++ step ∷ []) t (last_pushed bound.first done step) are.0.next both.1 are.1 form.1 (subst (λ l. length l ≤ MAX_STEPS) (sym all) few) behind))
