-- The lines of a text of a certificate: it begins with a section line, and none of its lines is `== given`.
use Rattle.std.proofs.Common.{◌≡◌, ℕ, Bool, true, false, not, cond, eqb, List, [], ◌∷◌, map, refl, sym, ap, ◌∙◌, codes, Option, None, Some, Result, Ok, Err}
use Rattle.std.specs.Prelude.{◌&&◌, ◌||◌, find, if◌then◌else◌}
use Rattle.std.specs.List.{list_any}
use Rattle.std.specs.Option.{option_map_or}
use Rattle.std.specs.Str.{bytes_eq}
use Rattle.std.proofs.lemmas.Bool.{false≢true}
use Rattle.std.proofs.lemmas.Slice.Eq.{bytes_eq-Decides}
use Rattle.re_problem.specs.Bytes.{is_empty_line}
use Rattle.re_labels.proofs.Tests.{and-true, eqb-true}
use Rattle.re_problem.specs.ProblemTexts.{end_fault, fault_if, fault_or, problem_of}
use Rattle.re_problem.specs.declared.fault.InputFault.{InputFault}
use Rattle.re_problem.specs.declared.fault.InputFault.TheVariants.{EarlyEnd}
use Rattle.re_problem.specs.SectionLines.{is_section, name_in, section_name, words_of}
use Rattle.re_cert.specs.CertificateTexts.{Brought, First, Next, State, and_behind, bad_section, begins, behind, behind_from, certificate_fault, fault_behind, goes_on, has_ended, in_text, joined, judged, judged_in, map_begins, past, renaming_ends, silent, step_begins, text_ends, whole_step}
use Rattle.re_cert.specs.SectionLines.{heading_in, heading_of, section_named, section_of}
use Rattle.re_cert.specs.declared.cert_reader.Phase.{Phase}
use Rattle.re_cert.specs.declared.cert_reader.Phase.TheVariants as phase
use Rattle.re_cert.specs.declared.sections.Section.TheVariants.{Other}
use Rattle.re_texts.proofs.Leading.{here, size, whole}
use Rattle.re_chains.specs.ChainTexts.{begins_section}
use Rattle.re_chains.specs.TwoTexts.{is_line}
use Rattle.re_io.specs.LineReading.{LineText}

-- ---- section lines
-- they aren't empty
section_filled : (line : List ℕ) → is_section line ≡ true → is_empty_line line ≡ false
section_filled [] section = absurd (false≢true section)
section_filled (b ∷ []) section = absurd (false≢true section)
section_filled (b ∷ d ∷ line) section = ap (λ x. is_empty_line (x ∷ d ∷ line)) (eqb-true b 61 (and-true (eqb b 61) (eqb d 61) section).0)

-- one with this name begins no section of a certificate
other_section : (line : List ℕ) → section_name line ≡ Some (codes "given") → section_of line ≡ Other
unfolding section_of
other_section line named = ap (λ name. option_map_or section_named name Other) named

two_words : (words : List (List ℕ)) (name : List ℕ) → name_in words ≡ Some name → heading_in words ≡ None
two_words [] name named = absurd (cc)
two_words (a ∷ []) name named = absurd (cc)
two_words (a ∷ b ∷ []) name named = refl
two_words (a ∷ b ∷ d ∷ words) name named = absurd (cc)

-- nor is one of two words a header
no_heading : (line name : List ℕ) → section_name line ≡ Some name → heading_of line ≡ None
unfolding heading_of
no_heading line name named = go (is_section line)
  where
    go : (b : Bool) → (if b then heading_in (words_of line) else None) ≡ None
    go true = two_words (words_of line) name named
    go false = refl

plain_heading : (line : List ℕ) → is_section line ≡ false → heading_of line ≡ None
unfolding heading_of
plain_heading line plain = ap (λ b. if b then heading_in (words_of line) else None) plain

-- ---- what such a line brings
bad_isnt : (s : State) (brought : Brought) → bad_section s ≡ Ok brought → ⊥
bad_isnt s brought e = cc

ends_bad : (fault : Option InputFault) (s : State) (brought : Brought) → fault_or fault (bad_section s) ≡ Ok brought → ⊥
ends_bad None s brought e = cc
ends_bad (Some fault) s brought e = cc

module _ (s : State) (line : List ℕ) (brought : Brought) (section : is_section line ≡ true) (other : section_of line ≡ Other) (headless : heading_of line ≡ None) where
  abbrev n : ℕ
  n = size line

  -- a fault in each section
  no_line : (p : Phase) → judged_in p s line n ≡ Ok brought → ⊥
  no_line phase.Header e =
      let same : judged_in phase.Header s line n ≡ bad_section (past s n) =
      ap (λ b. if b then silent (past s n) else begins (past s n) (heading_of line)) (section_filled line section) ∙ ap (begins (past s n)) headless in
      bad_isnt (past s n) brought (sym same ∙ e)
  no_line phase.First e =
      let t : State = joined (First (problem_of s.text)) (past s n) in
      let same : judged_in phase.First s line n ≡ text_ends s (bad_section t) =
      ap (λ b. if b then text_ends s (goes_on (First (problem_of s.text)) t (section_of line)) else in_text s line n) section ∙ ap (λ o. text_ends s (goes_on (First (problem_of s.text)) t o)) other in
      ends_bad (end_fault s.text_line s.text) t brought (sym same ∙ e)
  no_line phase.Next e =
      let t : State = record (past s n) { next = problem_of s.text; rows = []; entries = []; images = [] } in
      let same : judged_in phase.Next s line n ≡ text_ends s (bad_section t) =
      ap (λ b. if b then text_ends s (step_begins t (section_of line)) else in_text s line n) section ∙ ap (λ o. text_ends s (step_begins t o)) other in
      ends_bad (end_fault s.text_line s.text) t brought (sym same ∙ e)
  no_line phase.Rows e = rows e
    where
      rows : judged_in phase.Rows s line n ≡ Ok brought → ⊥
      rows e = go (is_section line) section _ e
        where
          go : (b : Bool) → b ≡ true → (r : Result Brought InputFault) → (if b then map_begins (past s n) (section_of line) else r) ≡ Ok brought → ⊥
          go true same r e = bad_isnt (past s n) brought (sym (ap (map_begins (past s n)) other) ∙ e)
          go false same r e = absurd (false≢true same)
  no_line phase.Map e = go (is_section line) section _ e
    where
      go : (b : Bool) → b ≡ true → (r : Result Brought InputFault) → (if b then goes_on (Next (whole_step s)) (joined (Next (whole_step s)) (past s n)) (section_of line) else r) ≡ Ok brought → ⊥
      go true same r e = bad_isnt (joined (Next (whole_step s)) (past s n)) brought (sym (ap (goes_on (Next (whole_step s)) (joined (Next (whole_step s)) (past s n))) other) ∙ e)
      go false same r e = absurd (false≢true same)
  no_line phase.Back e = go (is_section line) section _ e
    where
      go : (b : Bool) → b ≡ true → (r : Result Brought InputFault) → (if b then renaming_ends (past s n) (section_of line) else r) ≡ Ok brought → ⊥
      go true same r e = bad_isnt (past s n) brought (sym (ap (renaming_ends (past s n)) other) ∙ e)
      go false same r e = absurd (false≢true same)
  no_line phase.Ended e =
      let same : judged_in phase.Ended s line n ≡ bad_section (past s n) = ap (λ b. if b then silent (past s n) else bad_section (past s n)) (section_filled line section) in
      bad_isnt (past s n) brought (sym same ∙ e)

-- a line without fault isn't `== given`
not_given : (s : State) (line : List ℕ) (brought : Brought) → judged s (whole line) ≡ Ok brought → is_line (codes "given") line ≡ false
not_given s line brought right = go (is_section line) refl
  where
    with_name : Option (List ℕ) → Bool
    with_name name = option_map_or (λ other. bytes_eq other (codes "given")) name false

    by_name : is_section line ≡ true → (name : Option (List ℕ)) → section_name line ≡ name → option_map_or (λ other. bytes_eq other (codes "given")) name false ≡ false
    by_name section None named = refl
    by_name section (Some name) named = found (bytes_eq name (codes "given")) refl
      where
        found : (b : Bool) → bytes_eq name (codes "given") ≡ b → b ≡ false
        found false same = refl
        found true same =
            let is : name ≡ codes "given" = (bytes_eq-Decides name (codes "given")).0 same in
            absurd (no_line s line brought section (other_section line (named ∙ ap Some is)) (no_heading line name named) s.phase right)

    go : (b : Bool) → is_section line ≡ b → (is_section line && option_map_or (λ other. bytes_eq other (codes "given")) (section_name line) false) ≡ false
    go false plain = ap (λ b. b && option_map_or (λ other. bytes_eq other (codes "given")) (section_name line) false) plain
    go true section = ap (λ b. b && option_map_or (λ other. bytes_eq other (codes "given")) (section_name line) false) section ∙ by_name section (section_name line) refl

-- ---- lines without fault
pub none_given : (s : State) (lines : List (List ℕ)) (t : State) → behind_from s (map whole lines) ≡ Ok t → list_any (is_line (codes "given")) lines ≡ false
none_given s [] t is = refl
none_given s (line ∷ lines) t is = go (judged s (whole line)) refl is (λ u. none_given u lines t)
  where
    go : (r : Result Brought InputFault) → judged s (whole line) ≡ r → and_behind r (λ u. behind_from u (map whole lines)) ≡ Ok t
        → ((u : State) → behind_from u (map whole lines) ≡ Ok t → list_any (is_line (codes "given")) lines ≡ false)
        → (is_line (codes "given") line || list_any (is_line (codes "given")) lines) ≡ false
    go (Ok brought) same is others = ap (λ b. b || list_any (is_line (codes "given")) lines) (not_given s line brought same) ∙ others brought.state is
    go (Err fault) same is others = absurd (cc)

-- the first of them that isn't empty is the header
pub header_first : (s : State) (lines : List (List ℕ)) (t : State) → s.phase ≡ phase.Header → behind_from s (map whole lines) ≡ Ok t → has_ended t.phase ≡ true → begins_section lines ≡ true
header_first s [] t header is ended =
    let same : s ≡ t = cc in
    absurd (false≢true (sym (ap has_ended header) ∙ ap (λ (u : State). has_ended u.phase) same ∙ ended))
header_first s (line ∷ lines) t header is ended = go (is_empty_line line) refl (λ u begins behind. header_first u lines t begins behind ended)
  where
    there : judged s (whole line) ≡ judged_in phase.Header s line (size line)
    there = here s line phase.Header header

    first : (b : Bool) → is_empty_line line ≡ b → begins_section (line ∷ lines) ≡ option_map_or is_section (cond (not b) (Some line) (find (λ l. not (is_empty_line l)) lines)) false
    first b same = ap (λ e. option_map_or is_section (cond (not e) (Some line) (find (λ l. not (is_empty_line l)) lines)) false) same

    go : (b : Bool) → is_empty_line line ≡ b → ((u : State) → u.phase ≡ phase.Header → behind_from u (map whole lines) ≡ Ok t → begins_section lines ≡ true) → begins_section (line ∷ lines) ≡ true
    go true empty others =
        let quiet : judged s (whole line) ≡ silent (past s (size line)) = there ∙ ap (λ b. if b then silent (past s (size line)) else begins (past s (size line)) (heading_of line)) empty in
        first true empty ∙ others (past s (size line)) header (sym (ap (λ r. and_behind r (λ u. behind_from u (map whole lines))) quiet) ∙ is)
    go false filled others = first false filled ∙ section (is_section line) refl
      where
        section : (b : Bool) → is_section line ≡ b → is_section line ≡ true
        section true same = same
        section false plain =
            let wrong : judged s (whole line) ≡ bad_section (past s (size line)) =
            there ∙ ap (λ b. if b then silent (past s (size line)) else begins (past s (size line)) (heading_of line)) filled ∙ ap (begins (past s (size line))) (plain_heading line plain) in
            let refused : and_behind (bad_section (past s (size line))) (λ u. behind_from u (map whole lines)) ≡ Ok t = sym (ap (λ r. and_behind r (λ u. behind_from u (map whole lines))) wrong) ∙ is in
            absurd (cc)

-- ---- a text without fault
pub record IsWhole (lines : List LineText) : Type 0 where
  pub state : State
  pub is : behind lines ≡ Ok state
  pub ended : has_ended state.phase ≡ true

pub whole_of : (lines : List LineText) → certificate_fault lines ≡ None → IsWhole lines
whole_of lines none = go (behind lines) refl none
  where
    go : (r : Result State InputFault) → behind lines ≡ r → fault_behind r ≡ None → IsWhole lines
    go (Ok s) same none = at_end (has_ended s.phase) refl
      where
        at_end : (b : Bool) → has_ended s.phase ≡ b → IsWhole lines
        at_end true ended = record { state = s; is = same; ended = ended }
        at_end false more = absurd (let early : fault_behind (Ok s) ≡ Some EarlyEnd = ap (λ b. fault_if (not b) EarlyEnd) more in cc)
    go (Err fault) same none = absurd (cc)
