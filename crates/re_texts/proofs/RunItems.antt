-- The text of a run writes one item.
use Rattle.std.proofs.lemmas.List.{append-nil}
use Rattle.std.proofs.Common.{◌≡◌, ℕ, ◌≤◌, ◌+◌, Bool, true, false, cond, ◌||◌, eqb, List, [], ◌∷◌, ◌++◌, length, refl, sym, ap, ◌∙◌, arith, append_assoc, decimal, Option, Some, None}
use Rattle.std.specs.Char.{is_ascii_alphanumeric}
use Rattle.std.specs.List.{list_all, onto_first}
use Rattle.std.specs.Option.{option_and_then}
use Rattle.std.proofs.lemmas.Bool.{false≢true}
use Rattle.std.proofs.lemmas.Bool.Decides.{nat_tests}
use Rattle.std.proofs.lemmas.Fmt.{decimal_digit}
use Rattle.std.proofs.lemmas.List.Folds.{list_all-append}
use Rattle.re_problem.proofs.ItemShapes.{carets, power_behind}
use Rattle.re_problem.specs.Bytes.{is_allowed, is_blank}
use Rattle.re_problem.specs.Items.{ItemText, item_of, item_of_parts, item_with, label_item, labels_from, power_of, with_name}
use Rattle.re_labels.proofs.Tests.{and-true, true-and}
use Rattle.re_labels.specs.Names.{is_name, is_name_byte}
use Rattle.re_problem.specs.CanonicalTexts.{is_bare, label_text, power_text}
use Rattle.re_labels.proofs.LabelPlaces.{each_degree}

-- ---- bytes
-- a byte of the text of a label: a byte of a name or a parenthesis
abbrev pub is_label_byte : ℕ → Bool
is_label_byte b = is_name_byte b || eqb b 40 || eqb b 41

-- a byte of the text of a run
abbrev pub is_run_byte : ℕ → Bool
is_run_byte b = is_label_byte b || eqb b 94

-- what such a byte isn't, and that a line may have it
pub record RunByte (b : ℕ) : Type 0 where
  pub blank : is_blank b ≡ false
  pub bracket : eqb b 91 ≡ false
  pub percent : eqb b 37 ≡ false
  pub feed : eqb b 10 ≡ false
  pub allowed : is_allowed b ≡ true

pub run_byte : (b : ℕ) → is_run_byte b ≡ true → RunByte b
run_byte b h = record {
  blank = grind (arith, nat_tests);
  bracket = grind (arith, nat_tests);
  percent = grind (arith, nat_tests);
  feed = grind (arith, nat_tests);
  allowed = grind (arith, nat_tests);
}

no_caret : (b : ℕ) → is_label_byte b ≡ true → eqb b 94 ≡ false
no_caret b h = grind (arith, nat_tests)

name_to_label : (b : ℕ) → is_name_byte b ≡ true → is_label_byte b ≡ true
name_to_label b h = ap (λ t. t || eqb b 40 || eqb b 41) h

label_to_run : (b : ℕ) → is_label_byte b ≡ true → is_run_byte b ≡ true
label_to_run b h = ap (λ t. t || eqb b 94) h

pub all_weaker : (p q : ℕ → Bool) → ((b : ℕ) → p b ≡ true → q b ≡ true) → (bytes : List ℕ) → list_all p bytes ≡ true → list_all q bytes ≡ true
all_weaker p q to [] all = refl
all_weaker p q to (b ∷ bytes) all = let both = and-true (p b) (list_all p bytes) all in true-and (q b) (list_all q bytes) (to b both.0) (all_weaker p q to bytes both.1)

pub all_both : (p : ℕ → Bool) (xs ys : List ℕ) → list_all p xs ≡ true → list_all p ys ≡ true → list_all p (xs ++ ys) ≡ true
all_both p xs ys h k = list_all-append p xs ys ∙ true-and (list_all p xs) (list_all p ys) h k

pub name_bytes : (name : List ℕ) → is_name name ≡ true → list_all is_name_byte name ≡ true
name_bytes name named = (and-true _ (list_all is_name_byte name) named).1

-- the text of a label, where its name is bare and where it isn't
abbrev written_label : Bool → List ℕ → List ℕ
written_label bare name = cond bare name (40 ∷ (name ++ 41 ∷ []))

label_bytes : (name : List ℕ) → is_name name ≡ true → list_all is_label_byte (label_text name) ≡ true
label_bytes name named = go (is_bare name)
  where
    inside : list_all is_label_byte name ≡ true
    inside = all_weaker is_name_byte is_label_byte name_to_label name (name_bytes name named)

    go : (bare : Bool) → list_all is_label_byte (written_label bare name) ≡ true
    go true = inside
    go false = all_both is_label_byte name (41 ∷ []) inside refl

-- ---- labels
-- a name in parentheses
in_parentheses : (front name : List ℕ) → list_all is_name_byte name ≡ true → labels_from (Some front) (name ++ 41 ∷ []) ≡ cond (is_name (front ++ name)) (Some ((front ++ name) ∷ [])) None
in_parentheses front [] all = ap (λ n. cond (is_name n) (Some (n ∷ [])) None) (sym (append-nil front))
in_parentheses front (b ∷ name) all =
    let both = and-true (is_name_byte b) (list_all is_name_byte name) all in
    ap (λ t. cond t (cond (is_name front) (with_name front (labels_from None (name ++ 41 ∷ []))) None) (labels_from (Some (front ++ b ∷ [])) (name ++ 41 ∷ []))) (no_end b both.0)
    ∙ in_parentheses (front ++ b ∷ []) name both.1
    ∙ ap (λ n. cond (is_name n) (Some (n ∷ [])) None) (append_assoc front (b ∷ []) name)
  where
    no_end : (b : ℕ) → is_name_byte b ≡ true → eqb b 41 ≡ false
    no_end b h = grind (arith, nat_tests)

abbrev label_read : Option ℕ → List ℕ → Option ItemText
label_read power name = Some (record { names = name ∷ []; group = false; power = power })

read_label : (power : Option ℕ) (name : List ℕ) → is_name name ≡ true → item_with power (label_text name) ≡ label_read power name
read_label power name named = go (is_bare name) refl
  where
    single : (b : ℕ) → is_ascii_alphanumeric b ≡ true → item_with power (b ∷ []) ≡ label_read power (b ∷ [])
    single b label =
        let no_bracket : eqb b 91 ≡ false = grind (arith, nat_tests) in
        let no_parenthesis : eqb b 40 ≡ false = grind (arith, nat_tests) in
        let no_blank : is_blank b ≡ false = grind (arith, nat_tests) in
        rw (no_bracket, no_blank, no_parenthesis, label) refl

    one : (name : List ℕ) → is_bare name ≡ true → item_with power name ≡ label_read power name
    one [] bare = absurd (false≢true bare)
    one (b ∷ []) bare = single b (and-true (is_ascii_alphanumeric b) true (and-true true (list_all is_ascii_alphanumeric (b ∷ [])) bare).1).0
    one (b ∷ c ∷ name) bare =
        let long : eqb (length (b ∷ c ∷ name)) 1 ≡ false = grind (arith, nat_tests) in
        absurd (false≢true (sym long ∙ (and-true (eqb (length (b ∷ c ∷ name)) 1) (list_all is_ascii_alphanumeric (b ∷ c ∷ name)) bare).0))

    enclosed : labels_from (Some []) (name ++ 41 ∷ []) ≡ Some (name ∷ [])
    enclosed = in_parentheses [] name (name_bytes name named) ∙ ap (λ t. cond t (Some (name ∷ [])) None) named

    go : (bare : Bool) → is_bare name ≡ bare → item_with power (written_label bare name) ≡ label_read power name
    go true is = one name is
    go false is = ap (label_item power) enclosed

-- ---- powers
-- a degree is one digit
pub degree_digit : (d : ℕ) → 2 ≤ d → d ≤ 6 → decimal d ≡ (48 + d) ∷ []
degree_digit d low high = decimal_digit d (omega arith)

pub power_read : (count : ℕ) → 2 ≤ count → count ≤ 6 → power_of (decimal count) ≡ Some count
power_read count low high = ap power_of (degree_digit count low high) ∙ each_degree (λ n. power_of ((48 + n) ∷ []) ≡ Some n) refl refl refl refl refl count low high

digit_byte : (d : ℕ) → 2 ≤ d → d ≤ 6 → list_all is_run_byte (decimal d) ≡ true
digit_byte d low high = ap (list_all is_run_byte) (degree_digit d low high) ∙ each_degree (λ n. list_all is_run_byte ((48 + n) ∷ []) ≡ true) refl refl refl refl refl d low high

-- the power that is written for a run of so many labels
abbrev pub power_part : ℕ → Option ℕ
power_part count = cond (eqb count 1) None (Some count)

abbrev written_power : Bool → ℕ → List ℕ
written_power one count = cond one [] (94 ∷ decimal count)

pub many : (count : ℕ) → 1 ≤ count → eqb count 1 ≡ false → 2 ≤ count
many count some test = grind (arith, nat_tests)

pub power_bytes : (count : ℕ) → 1 ≤ count → count ≤ 6 → list_all is_run_byte (power_text count) ≡ true
power_bytes count some few = go (eqb count 1) refl
  where
    go : (one : Bool) → eqb count 1 ≡ one → list_all is_run_byte (written_power one count) ≡ true
    go true test = refl
    go false test = digit_byte count (many count some test) few

-- ---- the cut at `^`
no_cut : (text : List ℕ) → list_all is_label_byte text ≡ true → carets text ≡ text ∷ []
no_cut [] all = refl
no_cut (b ∷ text) all =
    let both = and-true (is_label_byte b) (list_all is_label_byte text) all in
    ap (λ t. cond t ([] ∷ carets text) (onto_first b (carets text))) (no_caret b both.0) ∙ ap (onto_first b) (no_cut text both.1)

one_cut : (text behind : List ℕ) → list_all is_label_byte text ≡ true → carets (text ++ 94 ∷ behind) ≡ text ∷ carets behind
one_cut [] behind all = refl
one_cut (b ∷ text) behind all =
    let both = and-true (is_label_byte b) (list_all is_label_byte text) all in
    ap (λ t. cond t ([] ∷ carets (text ++ 94 ∷ behind)) (onto_first b (carets (text ++ 94 ∷ behind)))) (no_caret b both.0) ∙ ap (onto_first b) (one_cut text behind both.1)

-- ---- runs
-- the text of a run is a name's label with a power
pub run_read : (name : List ℕ) (count : ℕ) → is_name name ≡ true → 1 ≤ count → count ≤ 6 → item_of (label_text name ++ power_text count) ≡ Some (record { names = name ∷ []; group = false; power = power_part count })
run_read name count named some few = go (eqb count 1) refl
  where
    bytes : list_all is_label_byte (label_text name) ≡ true
    bytes = label_bytes name named

    go : (one : Bool) → eqb count 1 ≡ one → item_of (label_text name ++ written_power one count) ≡ label_read (cond one None (Some count)) name
    go true test = ap item_of (append-nil (label_text name)) ∙ ap item_of_parts (no_cut (label_text name) bytes) ∙ read_label None name named
    go false test =
        ap item_of_parts (one_cut (label_text name) (decimal count) bytes) ∙ power_behind (label_text name) (decimal count)
        ∙ ap (option_and_then (λ n. item_with (Some n) (label_text name))) (power_read count (many count some test) few)
        ∙ read_label (Some count) name named

pub run_bytes : (name : List ℕ) (count : ℕ) → is_name name ≡ true → 1 ≤ count → count ≤ 6 → list_all is_run_byte (label_text name ++ power_text count) ≡ true
run_bytes name count named some few =
    all_both is_run_byte (label_text name) (power_text count) (all_weaker is_label_byte is_run_byte label_to_run (label_text name) (label_bytes name named)) (power_bytes count some few)

-- a label's text isn't nothing
pub some_text : (name behind : List ℕ) → is_name name ≡ true → (b : ℕ) × (rest : List ℕ) × (label_text name ++ behind ≡ b ∷ rest)
some_text name behind named = go (is_bare name) name named
  where
    go : (bare : Bool) (name : List ℕ) → is_name name ≡ true → (b : ℕ) × (rest : List ℕ) × (written_label bare name ++ behind ≡ b ∷ rest)
    go true [] named = absurd (false≢true named)
    go true (b ∷ name) named = (b, name ++ behind, refl)
    go false name named = (40, (name ++ 41 ∷ []) ++ behind, refl)
