-- What is printed of a bound and an input problem is read as them.
use Rattle.std.proofs.Common.{◌≡◌, ℕ, ◌+◌, Bool, true, false, eqb, List, [], ◌∷◌, ◌++◌, append_assoc, length, length-append, map, take, refl, sym, ap, ◌∙◌, subst, codes, arith, Option, None, Some}
use Rattle.std.specs.Prelude.{◌||◌, if◌then◌else◌, option_map}
use Rattle.std.specs.List.{AllByRecursion, after_first, before_first, list_any}
use Rattle.std.proofs.Math.Seq.{take-append_seam}
use Rattle.std.proofs.lemmas.Grind.{flat_map-append}
use Rattle.re_labels.proofs.Membership.{AllByRecursion-weaker}
use Rattle.re_labels.proofs.Tests.{eqb-true}
use Rattle.re_texts.proofs.ReadBack.{all_append, canonical_feeds, canonical_law, canonical_lines_law}
use Rattle.re_texts.specs.CanonicalLines.{IsWithinLimits, canonical_lines}
use Rattle.re_problem.proofs.EndedLines.{NoFeed, lines_of-ended}
use Rattle.re_problem.specs.CanonicalTexts.{canonical}
use Rattle.re_problem.specs.NamedProblems.{IsNamedProblem, NamedProblem}
use Rattle.re_problem.specs.ProblemTexts.{bytes_of, ended, fault_at, fault_if, first_fault, first_from, lines_of, or_else, problem_of}
use Rattle.re_problem.specs.declared.fault.InputFault.{InputFault}
use Rattle.re_problem.specs.declared.fault.InputFault.TheVariants.{BadSection, EarlyEnd}
use Rattle.re_problem.proofs.InnerLines.{inner_line, neither}
use Rattle.re_problem.specs.SectionLines.{is_section}
use Rattle.re_cert.specs.Bounds.{Bound, has_row_maps}
use Rattle.re_cert.specs.CertificateTexts.{behind_from, certificate_fault, certificate_of, start, text_lines}
use Rattle.re_texts.proofs.Leading.{ended_lines, whole, from_no_feed}
use Rattle.re_texts.specs.CertificateLines.{IsOneLine, header_text}
use Rattle.re_texts.specs.PrintedCertificates.{back_section, certificate_text, steps_text}
use Rattle.re_chains.specs.ChainTexts.{begins_section, chain_fault, is_certificate_text, problem_chain, text_bound}
use Rattle.re_chains.specs.GivenTexts.{GivenTextLaw, IsReadAs, given_text}
use Rattle.re_chains.specs.TwoTexts.{at_line, back_problem, front_bound, front_text, has_line, is_line, lines_before, lines_behind, lines_to, problem_fault, problem_lines, two_fault}
use Rattle.re_chains.proofs.CertificateLines.{header_first, none_given, whole_of}
use Rattle.re_chains.proofs.Splits.{after_there, any_there, before_none, before_there}

-- ---- lines that line feeds end
-- a text is that of these lines
record IsLines (text : List ℕ) : Type 0 where
  first : List ℕ
  rest : List (List ℕ)
  text_is : text ≡ ended (first ∷ rest)
  feed : AllByRecursion NoFeed (first ∷ rest)

-- each text that ends with a line feed is one
lines_ended : (text : List ℕ) → IsLines (text ++ 10 ∷ [])
lines_ended [] = record { first = []; rest = []; text_is = refl; feed = (tt, tt) }
lines_ended (b ∷ text) = go (eqb b 10) refl (lines_ended text)
  where
    go : (t : Bool) → eqb b 10 ≡ t → IsLines (text ++ 10 ∷ []) → IsLines (b ∷ (text ++ 10 ∷ []))
    go true feed more = record {
      first = [];
      rest = more.first ∷ more.rest;
      text_is = ap (λ x. x ∷ (text ++ 10 ∷ [])) (eqb-true b 10 feed) ∙ ap (λ l. 10 ∷ l) more.text_is;
      feed = (tt, more.feed);
    }
    go false other more = record { first = b ∷ more.first; rest = more.rest; text_is = ap (λ l. b ∷ l) more.text_is; feed = ((other, more.feed.0), more.feed.1) }

-- how long it is
ended_bytes : (lines : List (List ℕ)) → length (ended lines) ≡ bytes_of lines
ended_bytes [] = refl
ended_bytes (line ∷ lines) =
    let whole : length (ended (line ∷ lines)) ≡ length (line ++ 10 ∷ []) + length (ended lines) = length-append (line ++ 10 ∷ []) (ended lines) in
    let one : length (line ++ 10 ∷ []) ≡ length line + 1 = length-append line (10 ∷ []) in
    let more = ended_bytes lines in
    omega (arith, whole, one, more)

-- ---- problem texts
-- lines without fault have no section line
inner_lines : (byte from : ℕ) (before lines : List (List ℕ)) → first_from byte from before lines ≡ None → list_any is_section lines ≡ false
inner_lines byte from before [] none = refl
inner_lines byte from before (line ∷ lines) none =
    let both = neither (fault_at byte from before line) (first_from byte from (before ++ line ∷ []) lines) none in
    ap (λ b. b || list_any is_section lines) (inner_line byte from before line both.0) ∙ inner_lines byte from (before ++ line ∷ []) lines both.1

-- ---- texts of certificates
-- one ends with a line feed
certificate_ended : (bound : Bound) → certificate_text bound ≡ (header_text (has_row_maps bound.steps) bound.kind bound.back ++ codes "\n" ++ canonical bound.first ++ steps_text bound.first bound.steps ++ back_section bound ++ codes "== end") ++ 10 ∷ []
certificate_ended bound = sym (append_assoc (header_text (has_row_maps bound.steps) bound.kind bound.back ++ codes "\n" ++ canonical bound.first ++ steps_text bound.first bound.steps ++ back_section bound) (codes "== end") (10 ∷ []))

certificate_lines : (bound : Bound) → IsLines (certificate_text bound)
certificate_lines bound = subst IsLines (sym (certificate_ended bound)) (lines_ended (header_text (has_row_maps bound.steps) bound.kind bound.back ++ codes "\n" ++ canonical bound.first ++ steps_text bound.first bound.steps ++ back_section bound ++ codes "== end"))

-- it is read as one
is_begun : (lines : List (List ℕ)) → AllByRecursion NoFeed lines → begins_section lines ≡ true → is_certificate_text (ended lines) ≡ true
unfolding is_certificate_text
is_begun lines feed begins = ap begins_section (lines_of-ended lines feed) ∙ begins

module _ (bound : Bound) (input : NamedProblem) (right : certificate_fault (text_lines (certificate_text bound)) ≡ None) (read : certificate_of (text_lines (certificate_text bound)) ≡ bound) (is : IsNamedProblem input) (within : IsWithinLimits input) where
  of : IsLines (certificate_text bound)
  of = certificate_lines bound

  -- the lines of the certificate, the line between, and those of the problem
  abbrev front : List (List ℕ)
  front = of.first ∷ of.rest

  abbrev mark : List ℕ
  mark = codes "== given"

  abbrev back : List (List ℕ)
  back = canonical_lines input

  front_whole : text_lines (certificate_text bound) ≡ map whole front
  front_whole = ap text_lines of.text_is ∙ ended_lines front (AllByRecursion-weaker NoFeed IsOneLine from_no_feed front of.feed)

  none : list_any (is_line (codes "given")) front ≡ false
  none = let whole = whole_of (text_lines (certificate_text bound)) right in none_given start front whole.state (ap (behind_from start) (sym front_whole) ∙ whole.is)

  begun : is_certificate_text (certificate_text bound) ≡ true
  begun =
      let whole = whole_of (text_lines (certificate_text bound)) right in
      ap is_certificate_text of.text_is ∙ is_begun front of.feed (header_first start front whole.state refl (ap (behind_from start) (sym front_whole) ∙ whole.is) whole.ended)

  joined : given_text bound input ≡ ended (front ++ mark ∷ back)
  joined =
      ap (λ t. (t ++ codes "== given\n") ++ canonical input) of.text_is
      ∙ append_assoc (ended front) (codes "== given\n") (canonical input)
      ∙ ap (λ t. ended front ++ (codes "== given\n" ++ t)) (canonical_lines_law input is).0
      ∙ sym (flat_map-append (λ l. l ++ 10 ∷ []) front (mark ∷ back))

  mark_feed : NoFeed mark
  mark_feed = (refl, (refl, (refl, (refl, (refl, (refl, (refl, (refl, tt))))))))

  all_lines : lines_of (given_text bound input) ≡ front ++ mark ∷ back
  all_lines = ap lines_of joined ∙ lines_of-ended (front ++ mark ∷ back) (all_append NoFeed front (mark ∷ back) of.feed (mark_feed, canonical_feeds input is))

  -- ---- the cut
  has : has_line (codes "given") (given_text bound input) ≡ true
  has = ap (list_any (is_line (codes "given"))) all_lines ∙ any_there (is_line (codes "given")) front mark back none refl

  before : lines_before (codes "given") (given_text bound input) ≡ front
  before = ap (before_first (is_line (codes "given"))) all_lines ∙ before_there (is_line (codes "given")) front mark back none refl

  behind_line : lines_behind (codes "given") (given_text bound input) ≡ back
  behind_line = ap (after_first (is_line (codes "given"))) all_lines ∙ after_there (is_line (codes "given")) front mark back none refl

  front_is : front_text (codes "given") (given_text bound input) ≡ certificate_text bound
  front_is =
      ap (λ lines. take (bytes_of lines) (given_text bound input)) before
      ∙ ap (λ n. take n (given_text bound input)) (sym (ended_bytes front) ∙ ap length (sym of.text_is))
      ∙ ap (take (length (certificate_text bound))) (append_assoc (certificate_text bound) (codes "== given\n") (canonical input))
      ∙ take-append_seam (certificate_text bound) (codes "== given\n" ++ canonical input)

  -- ---- the two parts
  front_right : chain_fault (front_text (codes "given") (given_text bound input)) ≡ None
  front_right = ap chain_fault front_is ∙ ap (λ b. if b then certificate_fault (text_lines (certificate_text bound)) else first_fault 0 1 (lines_of (certificate_text bound))) begun ∙ right

  bound_is : front_bound (codes "given") (given_text bound input) ≡ bound
  bound_is = ap text_bound front_is ∙ ap (λ b. if b then certificate_of (text_lines (certificate_text bound)) else problem_chain (problem_of (lines_of (certificate_text bound)))) begun ∙ read

  same_back : lines_of (canonical input) ≡ back
  same_back = (canonical_lines_law input is).1

  back_right : (byte number : ℕ) → first_fault byte number back ≡ None
  back_right byte number = ap (first_fault byte number) (sym same_back) ∙ (canonical_law input is within).0 byte number

  inner : list_any is_section back ≡ false
  inner = inner_lines 0 1 [] back (back_right 0 1)

  back_all : problem_lines back ≡ back
  back_all = before_none is_section back inner

  back_fault : (byte number : ℕ) → problem_fault byte number back ≡ None
  back_fault byte number =
      ap (λ l. or_else (first_fault byte number l) (fault_if (list_any is_section back) (BadSection (number + length l)))) back_all
      ∙ ap (λ f. or_else f (fault_if (list_any is_section back) (BadSection (number + length back)))) (back_right byte number)
      ∙ ap (λ b. fault_if b (BadSection (number + length back))) inner

  input_is : back_problem (codes "given") (given_text bound input) ≡ input
  input_is = ap (λ l. problem_of (problem_lines l)) behind_line ∙ ap problem_of (back_all ∙ sym same_back) ∙ (canonical_law input is within).1

  -- ---- the text
  abbrev number : ℕ
  number = length (lines_to (codes "given") (given_text bound input))

  abbrev byte : ℕ
  byte = bytes_of (lines_to (codes "given") (given_text bound input))

  abbrev fault_with : Bool → Option InputFault
  fault_with b =
      if b
      then or_else (option_map (at_line number) (chain_fault (front_text (codes "given") (given_text bound input)))) (problem_fault byte (number + 1) (lines_behind (codes "given") (given_text bound input)))
      else or_else (chain_fault (given_text bound input)) (Some EarlyEnd)

  no_fault : two_fault (codes "given") (given_text bound input) ≡ None
  unfolding two_fault
  no_fault =
      ap fault_with has
      ∙ ap (λ f. or_else (option_map (at_line number) f) (problem_fault byte (number + 1) (lines_behind (codes "given") (given_text bound input)))) front_right
      ∙ ap (problem_fault byte (number + 1)) behind_line
      ∙ back_fault byte (number + 1)

  read_as : IsReadAs bound input (given_text bound input)
  read_as = record { right = no_fault; bound_is = bound_is; input_is = input_is }

pub given_text_law : GivenTextLaw
given_text_law bound input right read is within = read_as bound input right read is within
