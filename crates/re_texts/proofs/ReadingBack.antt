-- The text of a certificate has no fault, and is read as the certificate.
use Rattle.re_texts.proofs.LineWords.{one_line}
use Rattle.re_texts.proofs.HeaderLines.{chosen}
use Rattle.std.proofs.Common.{◌≡◌, ℕ, zero, suc, ◌||◌, ◌<◌, ◌&&◌, Bool, true, false, cond, not, eqb, ltb, List, [], ◌∷◌, ◌++◌, length, map, flat_map, refl, sym, ap, ◌∙◌, subst, arith, None, Some, Err, Ok, codes, append-nil, append_assoc}
use Rattle.std.specs.List.{AllByRecursion, list_all, slice_index_or}
use Rattle.std.proofs.lemmas.Bool.{false≢true}
use Rattle.std.proofs.lemmas.Grind.{flat_map-append}
use Rattle.re_labels.proofs.Tests.{and-true, eqb-true}
use Rattle.re_labels.specs.Names.{IsNames}
use Rattle.re_problem.specs.Bytes.{is_empty_line}
use Rattle.re_problem.specs.ItemSteps.{is_nil}
use Rattle.re_texts.proofs.ReadBack.{canonical_lines_law}
use Rattle.re_texts.specs.CanonicalLines.{canonical_lines}
use Rattle.re_texts.specs.SetTexts.{row_text}
use Rattle.re_problem.specs.CanonicalTexts.{canonical}
use Rattle.re_problem.specs.NamedProblems.{NamedProblem}
use Rattle.re_problem.specs.Steps.LowerMap.{by_row, by_set}
use Rattle.re_problem.specs.Steps.{LowerMap}
use Rattle.re_problem.specs.ProblemTexts.{ended, fault_if, last_or}
use Rattle.re_problem.specs.declared.fault.InputFault.TheVariants.{BadBack, BadItem, EarlyEnd}
use Rattle.re_cert.specs.Bounds.{Bound, BoundStep, has_row_maps, is_fixed, last_problem, next_problems, pair_fits, problem_at, renaming_fits}
use Rattle.re_cert.specs.CertificateTexts.{State, bad_section, begins, begins_text, brings, behind, bound_behind, certificate_fault, certificate_of, fault_behind, goes_on, has_ended, in_phase, in_section, joined, no_bound, past, renaming_ends, silent, start, takes_labels, takes_pair, text_lines}
use Rattle.re_cert.specs.CertificateTexts.Part.{Head, Renaming}
use Rattle.re_cert.specs.Entries.{labels_on}
use Rattle.re_problem.specs.Pairs.{pair_on}
use Rattle.re_cert.specs.SectionLines.{heading_of, section_of}
use Rattle.re_problem.specs.SectionLines.{is_section}
use Rattle.re_cert.specs.declared.cert_reader.Phase.TheVariants as phase
use Rattle.re_cert.specs.declared.certificate.Kind.{Kind}
use Rattle.re_texts.specs.CertificateLines.{EntryLineLaw, HeaderLineLaw, ImageLineLaw, PairLineLaw, RowLineLaw, SectionLineLaw, entry_text, header_text, image_text, pair_text}
use Rattle.re_texts.proofs.FittingParts.{Fits, all_formed, back_of, below_of, bound_fits, pairs_held}
use Rattle.re_texts.proofs.Leading.{InText, IsTextRead, Leads, ended_lines, here, leads_nowhere, leads_on, leads_one, problem_read, size, unlike}
use Rattle.re_texts.proofs.ReadingSteps.{Due, first_due, map_lines, rows_lines, section_line, step_lines, steps_lines, steps_read, with_steps}
use Rattle.re_texts.specs.PrintedCertificates.{CertificateTextLaw, IsCertificate, IsHeld, IsHeldStep, back_section, certificate_text, entries_text, map_text, pairs_text, rows_section, step_text, steps_text}
use Rattle.re_cert.specs.declared.certificate.TheConstants.{MAX_STEPS}

-- ---- the lines of the text
abbrev back_lines : Bound → List (List ℕ)
back_lines bound = cond (is_fixed bound.kind) (codes "== back" ∷ map (pair_text (last_problem bound).names (problem_at bound bound.back).names) bound.renaming) []

abbrev certificate_lines : Bound → List (List ℕ)
certificate_lines bound =
    header_text (has_row_maps bound.steps) bound.kind bound.back ∷ (canonical_lines bound.first ++ (steps_lines bound.first bound.steps ++ (back_lines bound ++ codes "== end" ∷ [])))

ended_two : (xs ys : List (List ℕ)) → ended (xs ++ ys) ≡ ended xs ++ ended ys
ended_two xs ys = flat_map-append (λ line. line ++ 10 ∷ []) xs ys

ended_map : {X : Type 0} (text : X → List ℕ) (xs : List X) → ended (map text xs) ≡ flat_map (λ x. text x ++ 10 ∷ []) xs
ended_map text [] = refl
ended_map text (x ∷ xs) = ap (λ t. (text x ++ 10 ∷ []) ++ t) (ended_map text xs)

canonical_ended : (problem : NamedProblem) → IsHeld problem → ended (canonical_lines problem) ≡ canonical problem
canonical_ended problem held = sym (canonical_lines_law problem held.0).0

rows_ended : (lower : Bool) (before : List (List ℕ)) (rows : List (List (List ℕ))) → ended (rows_lines lower before rows) ≡ rows_section lower before rows
rows_ended true before rows = ap (λ t. codes "== rows\n" ++ t) (ended_map (row_text before) rows)
rows_ended false before rows = refl

map_ended : (lower : Bool) (before next : List (List ℕ)) (m : LowerMap) → ended (map_lines lower before next m) ≡ map_text lower before next m
map_ended lower before next (by_set entries) = ended_map (entry_text lower before next) entries
map_ended lower before next (by_row images) = ended_map (image_text next) images

step_ended : (before : NamedProblem) (s : BoundStep) → IsHeldStep s → ended (step_lines before s) ≡ step_text before s
step_ended before s is =
    let rows : List (List ℕ) = rows_lines s.lower before.names s.rows in
    let map_part : List (List ℕ) = codes "== map" ∷ map_lines s.lower before.names s.next.names s.map in
    let tail : ended map_part ≡ codes "== map\n" ++ map_text s.lower before.names s.next.names s.map =
    ap (λ t. codes "== map\n" ++ t) (map_ended s.lower before.names s.next.names s.map) in
    ap (λ t. codes "== step\n" ++ t)
    (ended_two (canonical_lines s.next) (rows ++ map_part)
    ∙ (λ i. canonical_ended s.next is.next i ++ ended_two rows map_part i)
    ∙ (λ i. canonical s.next ++ (rows_ended s.lower before.names s.rows i ++ tail i)))
    ∙ regroup (codes "== step\n") (canonical s.next) (rows_section s.lower before.names s.rows) (codes "== map\n") (map_text s.lower before.names s.next.names s.map)
  where
    regroup : (a b c d e : List ℕ) → a ++ (b ++ (c ++ (d ++ e))) ≡ (((a ++ b) ++ c) ++ d) ++ e
    regroup a b c d e = sym (simp append_assoc)

steps_ended : (before : NamedProblem) (steps : List BoundStep) → AllByRecursion IsHeldStep steps → ended (steps_lines before steps) ≡ steps_text before steps
steps_ended before [] are = refl
steps_ended before (s ∷ steps) are = ended_two (step_lines before s) (steps_lines s.next steps) ∙ (λ i. step_ended before s are.0 i ++ steps_ended s.next steps are.1 i)

back_ended : (bound : Bound) → ended (back_lines bound) ≡ back_section bound
back_ended bound = go (is_fixed bound.kind)
  where
    last : List (List ℕ)
    last = (last_problem bound).names

    target : List (List ℕ)
    target = (problem_at bound bound.back).names

    go : (t : Bool) → ended (cond t (codes "== back" ∷ map (pair_text last target) bound.renaming) []) ≡ cond t (codes "== back\n" ++ pairs_text last target bound.renaming) []
    go true = ap (λ t. codes "== back\n" ++ t) (ended_map (pair_text last target) bound.renaming)
    go false = refl

text_ended : (bound : Bound) → IsCertificate bound → ended (certificate_lines bound) ≡ certificate_text bound
text_ended bound is =
    let steps : List (List ℕ) = steps_lines bound.first bound.steps in
    let last : List (List ℕ) = back_lines bound ++ codes "== end" ∷ [] in
    ap (λ t. (header_text (has_row_maps bound.steps) bound.kind bound.back ++ 10 ∷ []) ++ t)
    (ended_two (canonical_lines bound.first) (steps ++ last)
    ∙ (λ i. canonical_ended bound.first is.first i ++ ended_two steps last i)
    ∙ (λ i. canonical bound.first ++ (steps_ended bound.first bound.steps is.steps i ++ ended_two (back_lines bound) (codes "== end" ∷ []) i))
    ∙ (λ i. canonical bound.first ++ (steps_text bound.first bound.steps ++ (back_ended bound i ++ codes "== end\n"))))
    ∙ regroup (header_text (has_row_maps bound.steps) bound.kind bound.back ++ 10 ∷ []) (canonical bound.first) (steps_text bound.first bound.steps) (back_section bound) (codes "== end\n")
  where
    regroup : (a b c d e : List ℕ) → a ++ (b ++ (c ++ (d ++ e))) ≡ (((a ++ b) ++ c) ++ d) ++ e
    regroup a b c d e = sym (simp append_assoc)

-- ---- the parts of a bound
none_of : (bound : Bound) → renaming_fits bound ≡ true → is_fixed bound.kind ≡ false → (bound.back ≡ 0) × (bound.renaming ≡ [])
none_of bound fits loose =
    let test = ltb bound.back (length bound.steps) in
    let all = list_all (pair_fits (last_problem bound) (problem_at bound bound.back)) bound.renaming in
    let two = and-true (eqb bound.back 0) (is_nil bound.renaming) (sym (unlike (is_fixed bound.kind) (test && all) (eqb bound.back 0 && is_nil bound.renaming) loose) ∙ fits) in
    (eqb-true bound.back 0 two.0, nil bound.renaming two.1)
  where
    nil : {X : Type 0} (xs : List X) → is_nil xs ≡ true → xs ≡ []
    nil [] is = refl
    nil (x ∷ xs) is = absurd (false≢true is)

last_names : (problem : NamedProblem) (steps : List BoundStep) → IsHeld problem → AllByRecursion IsHeldStep steps → IsNames (last_or problem (next_problems steps)).names
last_names problem [] held are = held.0.names
last_names problem (s ∷ []) held are = are.0.next.0.names
last_names problem (s ∷ t ∷ steps) held are = last_names problem (t ∷ steps) held are.1

-- within the way back, with these pairs so far
record InBack (bound : Bound) (done : List (ℕ × ℕ)) (s : State) : Type 0 where
  pub phase_is : s.phase ≡ phase.Back
  pub bound_is : s.bound ≡ bound
  pub pairs_are : s.pairs ≡ done

-- behind the end, with this bound
record IsRead (bound : Bound) (s : State) : Type 0 where
  pub ended : has_ended s.phase ≡ true
  pub bound_is : s.bound ≡ bound

module _ (rows_law : RowLineLaw) (entries_law : EntryLineLaw) (images_law : ImageLineLaw) (pairs_law : PairLineLaw) (header_law : HeaderLineLaw) (sections : SectionLineLaw) where
  -- ---- the header
  header_read : (two : Bool) (kind : Kind) (back : ℕ) → back < MAX_STEPS → (is_fixed kind ≡ false → back ≡ 0)
      → Leads start (header_text two kind back ∷ []) (λ t. InText two phase.First (record no_bound { kind = kind; back = back }) t.text_byte t.text_line [] t)
  header_read two kind back low loose =
      let line : List ℕ = header_text two kind back in
      let law = header_law two kind back low loose in
      let t : State = past start (size line) in
      let u : State = record (begins_text phase.First (joined (Head kind back) t)) { by_row = two } in
      leads_one start line (record { part = Some (Head kind back); state = u }) (λ t. InText two phase.First (record no_bound { kind = kind; back = back }) t.text_byte t.text_line [] t) law.0
      (unlike (is_empty_line line) (silent t) (begins t (heading_of line)) law.1 ∙ ap (begins t) law.2)
      (record { phase_is = refl; bound_is = refl; byte_is = refl; start_is = refl; text_is = refl; by_row_is = refl })

  -- ---- the way back
  back_begun : (two : Bool) (bound : Bound) (s : State) → Due two bound s → is_fixed bound.kind ≡ true → ltb bound.back (length bound.steps) ≡ true → Leads s (codes "== back" ∷ []) (InBack bound [])
  back_begun two bound s due fixed before =
      let line : List ℕ = codes "== back" in
      let u : State = due.behind line in
      let back : State = record (in_phase phase.Back u) { pairs = [] } in
      leads_one s line (record { part = Some due.part; state = back }) (InBack bound []) (one_line line refl)
      (due.goes line refl ∙ ap (goes_on due.part u) sections.3
      ∙ chosen (is_fixed u.bound.kind) (cond (ltb u.bound.back (length u.bound.steps)) (brings due.part back) (Err (BadBack u.line))) (bad_section u) (ap (λ (b : Bound). is_fixed b.kind) (due.bound_is line) ∙ fixed)
      ∙ chosen (ltb u.bound.back (length u.bound.steps)) (brings due.part back) (Err (BadBack u.line)) (ap (λ (b : Bound). ltb b.back (length b.steps)) (due.bound_is line) ∙ before))
      (record { phase_is = refl; bound_is = due.bound_is line; pairs_are = refl })

  module _ (bound : Bound) (last_is : IsNames (last_problem bound).names) (target_is : IsNames (problem_at bound bound.back).names) where
    abbrev pair_line : ℕ × ℕ → List ℕ
    pair_line pair = pair_text (last_problem bound).names (problem_at bound bound.back).names pair

    pair_read : (pair : ℕ × ℕ) (done : List (ℕ × ℕ)) (s : State) → InBack bound done s → (pair.0 < length (last_problem bound).names) × (pair.1 < length (problem_at bound bound.back).names)
        → Leads s (pair_line pair ∷ []) (InBack bound (done ++ pair ∷ []))
    pair_read pair done s at low =
        let line : List ℕ = pair_line pair in
        let law = pairs_law (last_problem bound).names (problem_at bound bound.back).names pair last_is target_is low.0 low.1 in
        let items = law.1.0 in
        let t : State = past s (size line) in
        let labels = labels_on (last_problem s.bound).names (problem_at s.bound s.bound.back).names items in
        leads_one s line (record { part = None; state = record t { pairs = s.pairs ++ pair ∷ [] } }) (InBack bound (done ++ pair ∷ [])) law.0.one
        (here s line phase.Back at.phase_is
        ∙ unlike (is_section line) (renaming_ends t (section_of line)) (in_section s line (size line) (takes_labels t (pair_on line))) law.0.inner
        ∙ section_line s line (takes_labels t (pair_on line)) law.0 ∙ ap (takes_labels t) law.1.1
        ∙ (λ i. cond (law.1.2 i || law.1.3 i) (Err (BadItem t.line)) (takes_pair t labels))
        ∙ ap (takes_pair t) (ap (λ (b : Bound). labels_on (last_problem b).names (problem_at b b.back).names items) at.bound_is ∙ law.1.4))
        (record { phase_is = at.phase_is; bound_is = at.bound_is; pairs_are = ap (λ pairs. pairs ++ pair ∷ []) at.pairs_are })

    pairs_read : (pairs done : List (ℕ × ℕ)) (s : State) → InBack bound done s
        → AllByRecursion (λ (pair : ℕ × ℕ). (pair.0 < length (last_problem bound).names) × (pair.1 < length (problem_at bound bound.back).names)) pairs
        → Leads s (map pair_line pairs) (InBack bound (done ++ pairs))
    pairs_read [] done s at low = leads_nowhere s (InBack bound (done ++ [])) (subst (λ all. InBack bound all s) (sym (append-nil done)) at)
    pairs_read (pair ∷ pairs) done s at low =
        subst (λ l. Leads s (map pair_line (pair ∷ pairs)) (InBack bound l)) (append_assoc done (pair ∷ []) pairs)
        (leads_on s (pair_line pair ∷ []) (map pair_line pairs) (InBack bound (done ++ pair ∷ [])) (InBack bound ((done ++ pair ∷ []) ++ pairs))
        (pair_read pair done s at low.0) (λ t behind. pairs_read pairs (done ++ pair ∷ []) t behind low.1))

  -- ---- the end
  back_ends : (bound : Bound) (pairs : List (ℕ × ℕ)) (s : State) → InBack bound pairs s → Leads s (codes "== end" ∷ []) (IsRead (record bound { renaming = pairs }))
  back_ends bound pairs s at =
      let line : List ℕ = codes "== end" in
      let t : State = past s (size line) in
      leads_one s line (record { part = Some (Renaming s.pairs); state = in_phase phase.Ended (joined (Renaming s.pairs) t) }) (IsRead (record bound { renaming = pairs })) (one_line line refl)
      (here s line phase.Back at.phase_is ∙ ap (renaming_ends t) sections.4)
      (record { ended = refl; bound_is = (λ i. record (at.bound_is i) { renaming = at.pairs_are i }) })

  loose_ends : (two : Bool) (bound : Bound) (s : State) → Due two bound s → is_fixed bound.kind ≡ false → Leads s (codes "== end" ∷ []) (IsRead bound)
  loose_ends two bound s due loose =
      let line : List ℕ = codes "== end" in
      let u : State = due.behind line in
      leads_one s line (record { part = Some due.part; state = in_phase phase.Ended u }) (IsRead bound) (one_line line refl)
      (due.goes line refl ∙ ap (goes_on due.part u) sections.4
      ∙ unlike (is_fixed u.bound.kind) (bad_section u) (brings due.part (in_phase phase.Ended u)) (ap (λ (b : Bound). is_fixed b.kind) (due.bound_is line) ∙ loose))
      (record { ended = refl; bound_is = due.bound_is line })

  module _ (bound : Bound) (is : IsCertificate bound) where
    fits : Fits bound
    fits = bound_fits bound is.fits

    -- whether maps are by rows
    abbrev two : Bool
    two = has_row_maps bound.steps

    low : bound.back < MAX_STEPS
    low = go (is_fixed bound.kind) refl
      where
        go : (t : Bool) → is_fixed bound.kind ≡ t → bound.back < MAX_STEPS
        go true fixed = let few = fits.few in let below : bound.back < length bound.steps = below_of (length bound.steps) bound.back (back_of bound fits.renaming fixed).before in omega arith
        go false loose = let none : bound.back ≡ 0 = (none_of bound fits.renaming loose).0 in omega arith

    target_names : IsNames (problem_at bound bound.back).names
    target_names = problem_names (bound.first ∷ next_problems bound.steps) bound.back (is.first.0.names, next_names bound.steps is.steps)
      where
        next_names : (steps : List BoundStep) → AllByRecursion IsHeldStep steps → AllByRecursion (λ (p : NamedProblem). IsNames p.names) (next_problems steps)
        next_names [] are = tt
        next_names (s ∷ steps) are = (are.0.next.0.names, next_names steps are.1)

        problem_names : (problems : List NamedProblem) (n : ℕ) → AllByRecursion (λ (p : NamedProblem). IsNames p.names) problems → IsNames (slice_index_or problems n bound.first).names
        problem_names [] n are = is.first.0.names
        problem_names (p ∷ problems) zero are = are.0
        problem_names (p ∷ problems) (suc n) are = problem_names problems n are.1

    end_read : (s : State) → Due two (with_steps bound bound.steps) s → Leads s (back_lines bound ++ codes "== end" ∷ []) (IsRead bound)
    end_read s due = go (is_fixed bound.kind) refl
      where
        go : (t : Bool) → is_fixed bound.kind ≡ t → Leads s (cond t (codes "== back" ∷ map (pair_text (last_problem bound).names (problem_at bound bound.back).names) bound.renaming) [] ++ codes "== end" ∷ []) (IsRead bound)
        go true fixed =
            let back = back_of bound fits.renaming fixed in
            let here_bound : Bound = with_steps bound bound.steps in
            let pairs : List (List ℕ) = map (pair_text (last_problem bound).names (problem_at bound bound.back).names) bound.renaming in
            leads_on s (codes "== back" ∷ []) (pairs ++ codes "== end" ∷ []) (InBack here_bound []) (IsRead bound) (back_begun two here_bound s due fixed back.before)
            (λ t begun. leads_on t pairs (codes "== end" ∷ []) (InBack here_bound bound.renaming) (IsRead bound)
            (pairs_read here_bound (last_names bound.first bound.steps is.first is.steps) target_names bound.renaming [] t begun (pairs_held (last_problem bound) (problem_at bound bound.back) bound.renaming back.pairs))
            (λ u at. back_ends here_bound bound.renaming u at))
        go false loose =
            let none = none_of bound fits.renaming loose in
            subst (λ b. Leads s (codes "== end" ∷ []) (IsRead b)) (λ i. record bound { renaming = sym none.1 i }) (loose_ends two (with_steps bound bound.steps) s due loose)

    whole_read : Leads start (certificate_lines bound) (IsRead bound)
    whole_read =
        let steps : List (List ℕ) = steps_lines bound.first bound.steps in
        let last : List (List ℕ) = back_lines bound ++ codes "== end" ∷ [] in
        let head : Bound = record no_bound { kind = bound.kind; back = bound.back } in
        leads_on start (header_text two bound.kind bound.back ∷ []) (canonical_lines bound.first ++ (steps ++ last)) (λ t. InText two phase.First head t.text_byte t.text_line [] t) (IsRead bound)
        (header_read two bound.kind bound.back low (λ loose. (none_of bound fits.renaming loose).0))
        (λ t begun. leads_on t (canonical_lines bound.first) (steps ++ last) (IsTextRead two phase.First head bound.first) (IsRead bound)
        (problem_read two phase.First refl head t.text_byte t.text_line bound.first t is.first begun)
        (λ u read. leads_on u steps last (Due two (with_steps bound bound.steps)) (IsRead bound)
        (steps_read rows_law entries_law images_law sections two bound bound.first bound.steps [] u refl is.first fits.steps is.steps (all_formed bound is.fits) fits.few (first_due two head bound.first u read))
        (λ v due. end_read v due)))

    pub text_read : (certificate_fault (text_lines (certificate_text bound)) ≡ None) × (certificate_of (text_lines (certificate_text bound)) ≡ bound)
    text_read =
        let read = whole_read in
        let lines : behind (text_lines (certificate_text bound)) ≡ Ok read.state = ap (λ t. behind (text_lines t)) (sym (text_ended bound is)) ∙ ap behind (ended_lines (certificate_lines bound) read.one) ∙ read.is in
        (ap fault_behind lines ∙ ap (λ t. fault_if (not t) EarlyEnd) read.at.ended, ap bound_behind lines ∙ read.at.bound_is)

  pub certificate_text_law : CertificateTextLaw
  certificate_text_law bound is = text_read bound is
