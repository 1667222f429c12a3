-- A section line that no certificate has.
use Rattle.std.proofs.Common.{◌≡◌, ℕ, ◌+◌, ◌≤◌, true, false, cond, not, List, [], ◌∷◌, ◌++◌, length, length-append, take, drop, filter, Option, Some, None, Result, Ok, Err, refl, sym, ap, ◌∙◌, subst, arith, codes, take-append-drop}
use Rattle.std.specs.List.{list_all, onto_first, slice_split}
use Rattle.std.specs.Str.{bytes_eq}
use Rattle.std.proofs.lemmas.Slice.Eq.{bytes_eq-Decides}
use Rattle.re_problem.specs.Bytes.{is_blank, is_empty_line}
use Rattle.re_problem.specs.ItemSteps.{is_nil}
use Rattle.re_labels.proofs.Tests.{and-true}
use Rattle.re_problem.specs.ProblemTexts.{end_fault, fault_or}
use Rattle.re_problem.specs.declared.fault.InputFault.{InputFault}
use Rattle.re_problem.specs.declared.fault.InputFault.TheVariants.{BadSection}
use Rattle.re_cert.specs.CertificateTexts.{Brought, State as CertificateState, has_ended, judged as judged_certificate, judged_in}
use Rattle.re_cert.specs.SectionLines.{heading_in, heading_of, section_named, section_of}
use Rattle.re_cert.specs.declared.cert_reader.Phase.{Phase}
use Rattle.re_cert.specs.declared.cert_reader.Phase.TheVariants as phase
use Rattle.re_cert.specs.declared.sections.Section.TheVariants as section
use Rattle.re_problem.specs.SectionLines.{is_section, name_in, words_of}
use Rattle.re_net.specs.RunLines.{is_deliveries}
use Rattle.re_cert.specs.declared.sections.Section.TheVariants.{Other}
use Rattle.std.specs.Option.{option_map_or}

-- what it brings in each phase
abbrev foreign : Phase → CertificateState → Result Brought InputFault
foreign phase.First s = fault_or (end_fault s.text_line s.text) (Err (BadSection (s.line + 1)))
foreign phase.Next s = fault_or (end_fault s.text_line s.text) (Err (BadSection (s.line + 1)))
foreign p s = Err (BadSection (s.line + 1))

record IsForeign (text : List ℕ) : Type 0 where
  marked : is_section text ≡ true
  filled : is_empty_line text ≡ false
  section : section_of text ≡ section.Other
  heading : heading_of text ≡ None

in_phase : (p : Phase) (s : CertificateState) (text : List ℕ) (size : ℕ) → has_ended p ≡ false → IsForeign text → judged_in p s text size ≡ foreign p s
in_phase phase.Header s text size going f = (let filled = f.filled in let heading = f.heading in rw (filled, heading) refl)
in_phase phase.First s text size going f = (let marked = f.marked in let section = f.section in rw (marked, section) refl)
in_phase phase.Next s text size going f = (let marked = f.marked in let section = f.section in rw (marked, section) refl)
in_phase phase.Rows s text size going f = (let marked = f.marked in let section = f.section in rw (marked, section) refl)
in_phase phase.Map s text size going f = (let marked = f.marked in let section = f.section in rw (marked, section) refl)
in_phase phase.Back s text size going f = (let marked = f.marked in let section = f.section in rw (marked, section) refl)
in_phase phase.Ended s text size going f = absurd (cc)

refused_there : (fault : Option InputFault) (n : ℕ) (brought : Brought) → fault_or fault (Err (BadSection n)) ≡ Ok brought → ⊥
refused_there None n brought is = cc
refused_there (Some fault) n brought is = cc

no_good : (p : Phase) (s : CertificateState) (brought : Brought) → foreign p s ≡ Ok brought → ⊥
no_good phase.Header s brought is = cc
no_good phase.First s brought is = refused_there (end_fault s.text_line s.text) (s.line + 1) brought is
no_good phase.Next s brought is = refused_there (end_fault s.text_line s.text) (s.line + 1) brought is
no_good phase.Rows s brought is = cc
no_good phase.Map s brought is = cc
no_good phase.Back s brought is = cc
no_good phase.Ended s brought is = cc

-- ---- the words of `== deliveries`
blank_words : (tail : List ℕ) → list_all is_blank tail ≡ true → words_of tail ≡ []
blank_words [] all = refl
blank_words (b ∷ tail) all =
    let both = and-true (is_blank b) (list_all is_blank tail) all in
    ap (λ t. filter (λ word. not (is_nil word)) (cond t ([] ∷ slice_split is_blank tail) (onto_first b (slice_split is_blank tail)))) both.0 ∙ blank_words tail both.1

abbrev last_mark : List ℕ
last_mark = codes "== deliveries"

two_words : (tail : List ℕ) → list_all is_blank tail ≡ true → words_of (last_mark ++ tail) ≡ codes "==" ∷ codes "deliveries" ∷ []
two_words [] all = refl
two_words (b ∷ tail) all =
    let both = and-true (is_blank b) (list_all is_blank tail) all in
    let blank = both.0 in
    rw blank (ap (λ words. codes "==" ∷ codes "deliveries" ∷ words) (blank_words tail both.1))

-- the line is the mark with blanks behind it
same_line : (line : List ℕ) → is_deliveries line ≡ true → (line ≡ last_mark ++ drop 13 line) × (list_all is_blank (drop 13 line) ≡ true)
same_line line is =
    let both = and-true (bytes_eq (take 13 line) last_mark) (is_empty_line (drop 13 line)) is in
    (sym (take-append-drop 13 line) ∙ ap (λ front. front ++ drop 13 line) ((bytes_eq-Decides (take 13 line) last_mark).0 both.0), both.1)

pub long_enough : (line : List ℕ) → is_deliveries line ≡ true → 13 ≤ length line
long_enough line is =
    let same = same_line line is in
    let size : length line ≡ length last_mark + length (drop 13 line) = ap length same.0 ∙ length-append last_mark (drop 13 line) in
    omega arith

marked_foreign : (tail : List ℕ) → list_all is_blank tail ≡ true → IsForeign (last_mark ++ tail)
unfolding section_of heading_of
marked_foreign tail all = record {
  marked = refl;
  filled = refl;
  section = ap (λ name. option_map_or section_named name Other) (ap name_in (two_words tail all));
  heading = ap heading_in (two_words tail all);
}

mark_foreign : IsForeign (codes "==")
unfolding section_of heading_of
mark_foreign = record { marked = refl; filled = refl; section = refl; heading = refl }

-- `== deliveries` in a certificate is at fault as a bare mark is
module _ (s : CertificateState) (going : has_ended s.phase ≡ false) where
  by_mark : (text : List ℕ) → IsForeign text → judged_certificate s (record { text = text; ended = true }) ≡ foreign s.phase s
  by_mark text f = in_phase s.phase s text (length (text ++ 10 ∷ [])) going f

  pub mark_refused : (brought : Brought) → judged_certificate s (record { text = codes "=="; ended = true }) ≡ Ok brought → ⊥
  mark_refused brought is = no_good s.phase s brought (sym (by_mark (codes "==") mark_foreign) ∙ is)

  pub same_fault : (line : List ℕ) → is_deliveries line ≡ true
      → judged_certificate s (record { text = line; ended = true }) ≡ judged_certificate s (record { text = codes "=="; ended = true })
  same_fault line is =
      let same = same_line line is in
      by_mark line (subst IsForeign (sym same.0) (marked_foreign (drop 13 line) same.1)) ∙ sym (by_mark (codes "==") mark_foreign)
