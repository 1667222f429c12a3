-- The header and the section lines are read as what they say.
use Rattle.std.proofs.Common.{◌≡◌, ℕ, ◌≤◌, ◌<◌, ◌+◌, ◌-◌, ◌*◌, ◌/◌, ◌%◌, Bool, true, false, cond, not, ◌&&◌, eqb, ltb, List, [], ◌∷◌, ◌++◌, filter, codes, decimal, refl, sym, ap, ◌∙◌, subst, arith, inl, inr, Some, None}
use Rattle.std.specs.Char.{is_ascii_digit}
use Rattle.std.specs.List.{list_all, onto_first, slice_split}
use Rattle.std.specs.Option.{option_and_then}
use Rattle.std.proofs.lemmas.Bool.{cases_lt, lt-ltb}
use Rattle.std.proofs.lemmas.Bool.Decides.{nat_tests}
use Rattle.std.proofs.lemmas.Fmt.{decimal_digit, decimal_step}
use Rattle.re_texts.proofs.RunItems.{all_weaker}
use Rattle.re_cert.specs.SectionLines.{fixed_heading, heading_in, heading_of, section_of}
use Rattle.re_cert.specs.declared.certificate.Kind.TheVariants.{Lower, Upper, Fixed}
use Rattle.re_texts.proofs.LineWords.{one_line}
use Rattle.re_texts.specs.CertificateLines.{HeaderLineLaw, SectionLineLaw, header_text}
use Rattle.re_problem.specs.Bytes.{is_blank}
use Rattle.re_problem.specs.Numerals.{continued, number_of}
use Rattle.re_problem.specs.ItemSteps.{is_nil}
use Rattle.re_labels.proofs.Tests.{and-true, true-and}
use Rattle.re_cert.specs.declared.certificate.TheConstants.{MAX_STEPS}

-- ---- numbers of one or two digits
-- digits, at least one, that write the number
record IsNumber (text : List ℕ) (n : ℕ) : Type 0 where
  digits : list_all is_ascii_digit text ≡ true
  number : number_of text ≡ Some n
  filled : is_nil text ≡ false

digit_test : (n : ℕ) → n < 10 → is_ascii_digit (48 + n) ≡ true
digit_test n small = grind (arith, nat_tests)

one_digit : (n : ℕ) → n < 10 → IsNumber ((48 + n) ∷ []) n
one_digit n small = record {
  digits = true-and (is_ascii_digit (48 + n)) true (digit_test n small) refl;
  number = ap (λ t. cond ((t && true) && true) (Some (continued 0 ((48 + n) ∷ []))) None) (digit_test n small) ∙ ap Some value;
  filled = refl;
}
  where
    value : 10 * 0 + ((48 + n) - 48) ≡ n
    value = omega arith

two_digits : (q r : ℕ) → 1 ≤ q → q < 10 → r < 10 → IsNumber ((48 + q) ∷ (48 + r) ∷ []) (10 * q + r)
two_digits q r some small low = record {
  digits = true-and (is_ascii_digit (48 + q)) (is_ascii_digit (48 + r) && true) (digit_test q small) (true-and (is_ascii_digit (48 + r)) true (digit_test r low) refl);
  number =
      (λ i. cond ((digit_test q small i && (digit_test r low i && true)) && not (no_zero i)) (Some (continued 0 ((48 + q) ∷ (48 + r) ∷ []))) None) ∙ ap Some value;
  filled = refl;
}
  where
    no_zero : eqb (48 + q) 48 ≡ false
    no_zero = grind (arith, nat_tests)

    value : 10 * (10 * 0 + ((48 + q) - 48)) + ((48 + r) - 48) ≡ 10 * q + r
    value = omega arith

-- a number below 64 in decimal
decimal_number : (n : ℕ) → n < MAX_STEPS → IsNumber (decimal n) n
decimal_number n small = elim (cases_lt n 10) [ inl low ↦ alone low | inr high ↦ several high ]
  where
    alone : n < 10 → IsNumber (decimal n) n
    alone low = subst (λ text. IsNumber text n) (sym (decimal_digit n low)) (one_digit n low)

    several : 10 ≤ n → IsNumber (decimal n) n
    several high =
        let q : n / 10 < 10 = omega arith in
        let some : 1 ≤ n / 10 = omega arith in
        let r : n % 10 < 10 = omega arith in
        let whole : 10 * (n / 10) + n % 10 ≡ n = omega arith in
        let text : decimal n ≡ (48 + n / 10) ∷ (48 + n % 10) ∷ [] = decimal_step n high (omega arith) ∙ ap (λ d. d ++ (48 + n % 10) ∷ []) (decimal_digit (n / 10) q) in
        subst (λ m. IsNumber (decimal n) m) whole (subst (λ t. IsNumber t (10 * (n / 10) + n % 10)) (sym text) (two_digits (n / 10) (n % 10) some q r))

-- ---- the header
digit_kind : (b : ℕ) → is_ascii_digit b ≡ true → (is_blank b ≡ false) × (not (eqb b 10) ≡ true)
digit_kind b h = (grind (arith, nat_tests), grind (arith, nat_tests))

no_cut : (text : List ℕ) → list_all is_ascii_digit text ≡ true → slice_split is_blank text ≡ text ∷ []
no_cut [] all = refl
no_cut (b ∷ text) all =
    let both = and-true (is_ascii_digit b) (list_all is_ascii_digit text) all in
    ap (λ t. cond t ([] ∷ slice_split is_blank text) (onto_first b (slice_split is_blank text))) (digit_kind b both.0).0 ∙ ap (onto_first b) (no_cut text both.1)

pub chosen : {X : Type 0} (t : Bool) (x y : X) → t ≡ true → cond t x y ≡ x
chosen t x y is = ap (λ s. cond s x y) is

abbrev words_in : List (List ℕ) → List (List ℕ)
words_in pieces = filter (λ word. not (is_nil word)) pieces

fixed_read_1 : (text : List ℕ) (back : ℕ) → back < MAX_STEPS → IsNumber text back → heading_of (codes "== certificate 1 fixed " ++ text) ≡ Some (record { kind = Fixed; back = back; by_row = false })
unfolding heading_of
fixed_read_1 text back small is =
    ap (λ pieces. heading_in (codes "==" ∷ codes "certificate" ∷ codes "1" ∷ codes "fixed" ∷ words_in pieces)) (no_cut text is.digits)
    ∙ ap (λ t. heading_in (codes "==" ∷ codes "certificate" ∷ codes "1" ∷ codes "fixed" ∷ cond (not t) (text ∷ []) [])) is.filled
    ∙ ap (option_and_then (fixed_heading false)) is.number
    ∙ chosen (ltb back MAX_STEPS) _ _ (lt-ltb back MAX_STEPS small)

fixed_read_2 : (text : List ℕ) (back : ℕ) → back < MAX_STEPS → IsNumber text back → heading_of (codes "== certificate 2 fixed " ++ text) ≡ Some (record { kind = Fixed; back = back; by_row = true })
unfolding heading_of
fixed_read_2 text back small is =
    ap (λ pieces. heading_in (codes "==" ∷ codes "certificate" ∷ codes "2" ∷ codes "fixed" ∷ words_in pieces)) (no_cut text is.digits)
    ∙ ap (λ t. heading_in (codes "==" ∷ codes "certificate" ∷ codes "2" ∷ codes "fixed" ∷ cond (not t) (text ∷ []) [])) is.filled
    ∙ ap (option_and_then (fixed_heading true)) is.number
    ∙ chosen (ltb back MAX_STEPS) _ _ (lt-ltb back MAX_STEPS small)

no_feed : (text : List ℕ) → list_all is_ascii_digit text ≡ true → list_all (λ b. not (eqb b 10)) text ≡ true
no_feed text all = all_weaker is_ascii_digit (λ b. not (eqb b 10)) (λ b h. (digit_kind b h).1) text all

pub header_line_law : HeaderLineLaw
unfolding heading_of
header_line_law false Lower back small none =
    (one_line (header_text false Lower back) refl, refl, subst (λ b. heading_of (header_text false Lower back) ≡ Some (record { kind = Lower; back = b; by_row = false })) (sym (none refl)) refl)
header_line_law false Upper back small none =
    (one_line (header_text false Upper back) refl, refl, subst (λ b. heading_of (header_text false Upper back) ≡ Some (record { kind = Upper; back = b; by_row = false })) (sym (none refl)) refl)
header_line_law false Fixed back small none =
    let is = decimal_number back small in (one_line (codes "== certificate 1 fixed " ++ decimal back) (no_feed (decimal back) is.digits), refl, fixed_read_1 (decimal back) back small is)
header_line_law true Lower back small none =
    (one_line (header_text true Lower back) refl, refl, subst (λ b. heading_of (header_text true Lower back) ≡ Some (record { kind = Lower; back = b; by_row = true })) (sym (none refl)) refl)
header_line_law true Upper back small none =
    (one_line (header_text true Upper back) refl, refl, subst (λ b. heading_of (header_text true Upper back) ≡ Some (record { kind = Upper; back = b; by_row = true })) (sym (none refl)) refl)
header_line_law true Fixed back small none =
    let is = decimal_number back small in (one_line (codes "== certificate 2 fixed " ++ decimal back) (no_feed (decimal back) is.digits), refl, fixed_read_2 (decimal back) back small is)

-- ---- sections
pub section_line_law : SectionLineLaw
unfolding section_of
section_line_law = (refl, refl, refl, refl, refl)
