-- What the counts of labels say about items.
use Rattle.std.proofs.Common.{◌≡◌, ℕ, suc, ◌<◌, ◌≤◌, ◌+◌, ◌-◌, Bool, true, false, cond, not, ◌&&◌, ◌||◌, eqb, leb, List, [], ◌∷◌, length, take, drop, get_or, length-drop, length-take, refl, sym, ap, ◌∙◌, subst, arith, Option, Some, None}
use Rattle.std.specs.Char.{is_ascii_alphanumeric, is_ascii_digit}
use Rattle.std.specs.List.{list_all, onto_first, position, position_or_len, slice_split}
use Rattle.std.specs.Option.{option_and_then, option_map}
use Rattle.std.proofs.lemmas.Grind.{common_steps}
use Rattle.std.proofs.lemmas.Bool.Decides.{nat_tests}
use Rattle.std.proofs.lemmas.List.{take_rest}
use Rattle.std.proofs.lemmas.List.Folds.{list_all_at}
use Rattle.std.proofs.lemmas.List.Quantifiers.{position-Some}
use Rattle.std.proofs.lemmas.List.Splits.{slice_split_first, slice_split_none}
use Rattle.std.proofs.lemmas.List.Sums.{fails_before_first}
use Rattle.std.proofs.lemmas.Bool.{false≢true}
use Rattle.re_labels.proofs.Tests.{and-true, eqb-apart, eqb-true}
use Rattle.re_problem.proofs.Scanning.{first_onto}
use Rattle.re_problem.specs.Items.{ItemText, is_inside, pieces, group_item, group_with, in_range, item_of, item_of_parts, item_with, label_item, labels_of, power_of}
use Rattle.re_problem.specs.Bytes.{behind_blanks, is_blank}
use Rattle.re_problem.specs.ItemSteps.{first_of, first_word, item_at, step_at, step_of_word}
use Rattle.re_problem.specs.Numerals.{begins_with_zero, continued, is_numeral}
use Rattle.re_problem.specs.Shapes.{shape_of}
use Rattle.re_problem.specs.declared.items.ItemStep.{ItemStep}
use Rattle.re_problem.specs.declared.items.ItemStep.TheVariants as step
use Rattle.re_problem.specs.declared.items.Shape.{Shape}
use Rattle.std.specs.Prelude.{slice_range}

-- ---- groups and labels, by their counts
abbrev pub group_counted : Option ℕ → Option ℕ → Option Shape
group_counted power None = None
group_counted power (Some count) = Some (record { group = true; empty = eqb count 0; power = power })

not_none : (n : ℕ) → eqb (suc n) 0 ≡ false
not_none n = grind (arith, nat_tests)

group_names : (power : Option ℕ) (names : Option (List (List ℕ))) → group_counted power (option_map length names) ≡ option_map shape_of (group_item power names)
group_names power None = refl
group_names power (Some []) = refl
group_names power (Some (name ∷ names)) = ap (λ e. Some (record { group = true; empty = e; power = power })) (not_none (length names))

pub group_of_count : (power : Option ℕ) (text : List ℕ) (count : Option ℕ) → get_or text (length text - 1) 0 ≡ 93
    → count ≡ option_map length (labels_of (take (length text - 1) text)) → group_counted power count ≡ option_map shape_of (group_with power text)
group_of_count power text count last counted =
    let ends : eqb (get_or text (length text - 1) 0) 93 ≡ true = grind (arith, nat_tests) in
    ap (group_counted power) counted ∙ group_names power (labels_of (take (length text - 1) text))
    ∙ sym (ap (λ t. option_map shape_of (cond t (group_item power (labels_of (take (length text - 1) text))) None)) ends)

pub not_one_label : (power : Option ℕ) (names : Option (List (List ℕ))) (count : ℕ) → Some count ≡ option_map length names → (count ≡ 1 → ⊥)
    → None ≡ option_map shape_of (label_item power names)
not_one_label power None count counted apart = refl
not_one_label power (Some []) count counted apart = refl
not_one_label power (Some (name ∷ [])) count counted apart = let one : count ≡ 1 = cc in absurd (apart one)
not_one_label power (Some (name ∷ next ∷ names)) count counted apart = refl

pub no_labels : (power : Option ℕ) (names : Option (List (List ℕ))) → None ≡ option_map length names → None ≡ option_map shape_of (label_item power names)
no_labels power None counted = refl
no_labels power (Some names) counted = absurd (cc)

-- ---- the cut at `^`
abbrev pub carets : List ℕ → List (List ℕ)
carets word = slice_split (λ b. eqb b 94) word

pub cut_none : (p : ℕ → Bool) (xs : List ℕ) → position p xs ≡ None → slice_split p xs ≡ xs ∷ []
cut_none p xs none = slice_split_none p xs (λ k d below. fails_before_first p xs k d (let all : length xs ≤ position_or_len p xs = grind (arith, common_steps, nat_tests) in omega arith))

pub cut_at : (p : ℕ → Bool) (xs : List ℕ) (i : ℕ) → position p xs ≡ Some i → slice_split p xs ≡ take i xs ∷ slice_split p (drop (i + 1) xs)
cut_at p xs i at =
    let same : position_or_len p xs ≡ i = grind (arith, common_steps) in
    let below : i < length xs = (position-Some p xs i 0 at).0 in
    subst (λ n. slice_split p xs ≡ take n xs ∷ slice_split p (drop (n + 1) xs)) same (slice_split_first p xs 0 (omega arith))

pub some_parts : (p : ℕ → Bool) (xs : List ℕ) → (part : List ℕ) × (parts : List (List ℕ)) × (slice_split p xs ≡ part ∷ parts)
some_parts p [] = ([], [], refl)
some_parts p (x ∷ xs) =
    elim (p x) as (λ t. (part : List ℕ) × (parts : List (List ℕ)) × (cond t ([] ∷ slice_split p xs) (onto_first x (slice_split p xs)) ≡ part ∷ parts)) [
      | true ↦ ([], slice_split p xs, refl)
      | false ↦ let r = some_parts p xs in (x ∷ r.0, r.1, ap (onto_first x) r.2)
    ]

pub whole_word : (word : List ℕ) → None ≡ position (λ b. eqb b 94) word → item_of word ≡ item_with None word
whole_word word none = ap item_of_parts (cut_none (λ b. eqb b 94) word (sym none))

-- a caret is no digit
no_power : (text : List ℕ) (i : ℕ) → position (λ b. eqb b 94) text ≡ Some i → power_of text ≡ None
no_power text i at =
    let found = position-Some (λ b. eqb b 94) text i 0 at in
    let caret : get_or text i 0 ≡ 94 = grind (arith, nat_tests, found.1) in
    let digits : list_all is_ascii_digit text ≡ false = list_all_at is_ascii_digit text i 0 found.0 (ap is_ascii_digit caret) in
    let none : is_numeral text ≡ false = third_false (leb 1 (length text)) (leb (length text) 9) (list_all is_ascii_digit text) (eqb (length text) 1 || not (begins_with_zero text)) digits in
    ap (λ t. option_and_then in_range (cond t (Some (continued 0 text)) None)) none
  where
    third_false : (a b c d : Bool) → c ≡ false → (a && b && c && d) ≡ false
    third_false true true c d h = ap (λ t. t && d) h
    third_false true false c d h = refl
    third_false false b c d h = refl

-- the power is what stands behind the caret
pub power_behind : (base text : List ℕ) → item_of_parts (base ∷ carets text) ≡ option_and_then (λ n. item_with (Some n) base) (power_of text)
power_behind base text = go (position (λ b. eqb b 94) text) refl
  where
    go : (place : Option ℕ) → position (λ b. eqb b 94) text ≡ place → item_of_parts (base ∷ carets text) ≡ option_and_then (λ n. item_with (Some n) base) (power_of text)
    go None none = ap (λ parts. item_of_parts (base ∷ parts)) (cut_none (λ b. eqb b 94) text none)
    go (Some i) at =
        let rest = some_parts (λ b. eqb b 94) (drop (i + 1) text) in
        ap (λ parts. item_of_parts (base ∷ parts)) (cut_at (λ b. eqb b 94) text i at ∙ ap (λ parts. take i text ∷ parts) rest.2)
        ∙ sym (ap (option_and_then (λ n. item_with (Some n) base)) (no_power text i at))

pub word_with_power : (word : List ℕ) (at : ℕ) → Some at ≡ position (λ b. eqb b 94) word
    → item_of word ≡ option_and_then (λ n. item_with (Some n) (take at word)) (power_of (take (length word - (at + 1)) (drop (at + 1) word)))
word_with_power word at found =
    ap item_of_parts (cut_at (λ b. eqb b 94) word at (sym found)) ∙ power_behind (take at word) (drop (at + 1) word)
    ∙ ap (λ text. option_and_then (λ n. item_with (Some n) (take at word)) (power_of text)) (sym (take_rest word (at + 1)))

pub one_label : (power : Option ℕ) (names : Option (List (List ℕ))) (count : ℕ) → Some count ≡ option_map length names → count ≡ 1
    → Some (record { group = false; empty = false; power = power }) ≡ option_map shape_of (label_item power names)
one_label power None count counted one = absurd (cc)
one_label power (Some []) count counted one = let zero_too : count ≡ 0 = cc in absurd (omega arith)
one_label power (Some (name ∷ [])) count counted one = refl
one_label power (Some (name ∷ next ∷ names)) count counted one = let more : count ≡ suc (suc (length names)) = cc in absurd (omega arith)

-- ---- what stands on a line
abbrev pub step_of_shape : ℕ → ℕ → Option Shape → ItemStep
step_of_shape from to None = step.Bad
step_of_shape from to (Some shape) = step.Item (record { from = from; to = to; group = shape.group; empty = shape.empty; power = shape.power })

same_step : (from to : ℕ) (item : Option ItemText) → step_of_shape from to (option_map shape_of item) ≡ item_at from to item
same_step from to None = refl
same_step from to (Some item) = refl

word_step : (from to : ℕ) (word : List ℕ) → 0 < length word → from + length word ≡ to → item_at from to (item_of word) ≡ step_of_word from word
word_step from to [] some end = absurd (omega arith)
word_step from to (b ∷ word) some end = ap (λ n. item_at from n (item_of (b ∷ word))) (sym end)

pub length-slice_range : (xs : List ℕ) (from to : ℕ) → from ≤ to → to ≤ length xs → length (slice_range xs from to) ≡ to - from
length-slice_range xs from to ordered within = omega (arith, length-take (to - from) (drop from xs), length-drop from xs)

module _ (line : List ℕ) (at from to : ℕ) (place : from ≡ behind_blanks line at) (word : slice_range line from to ≡ first_word (drop from line)) (ordered : from ≤ to) (within : to ≤ length line) where
  step_is : step_at line at ≡ step_of_word from (slice_range line from to)
  step_is = ap (λ n. step_of_word n (first_word (drop n line))) (sym place) ∙ ap (step_of_word from) (sym word)

  pub nothing_more : from ≡ to → step.End ≡ step_at line at
  nothing_more same =
      let none : slice_range line from to ≡ [] = ap (λ n. take n (drop from line)) (let gap : to - from ≡ 0 = omega arith in gap) in
      sym (step_is ∙ ap (step_of_word from) none)

  pub step_read : (from ≡ to → ⊥) → (shape : Option Shape) → shape ≡ option_map shape_of (item_of (slice_range line from to)) → step_of_shape from to shape ≡ step_at line at
  step_read apart shape read =
      let count = length-slice_range line from to ordered within in
      ap (step_of_shape from to) read ∙ same_step from to (item_of (slice_range line from to))
      ∙ word_step from to (slice_range line from to) (omega arith) (omega arith) ∙ sym step_is

-- ---- the labels of an item that is read
pub power_of_item : (power : Option ℕ) (base : List ℕ) (item : ItemText) → item_with power base ≡ Some item → power ≡ item.power
power_of_item power [] item is = absurd (cc)
power_of_item power (b ∷ text) item is = go (eqb b 91) (eqb (get_or text (length text - 1) 0) 93) (labels_of (take (length text - 1) text)) (labels_of (b ∷ text)) is
  where
    go : (group ends : Bool) (names label : Option (List (List ℕ))) → cond group (cond ends (group_item power names) None) (label_item power label) ≡ Some item → power ≡ item.power
    go true true None label is = absurd (cc)
    go true true (Some names) label is = let same : record { names = names; group = true; power = power } ≡ item = cc in ap (λ i. i.power) same
    go true false names label is = absurd (cc)
    go false ends names None is = absurd (cc)
    go false ends names (Some []) is = absurd (cc)
    go false ends names (Some (name ∷ [])) is = let same : record { names = name ∷ []; group = false; power = power } ≡ item = cc in ap (λ i. i.power) same
    go false ends names (Some (name ∷ next ∷ more)) is = absurd (cc)

base_read : (power : Option ℕ) (base : List ℕ) (item : ItemText) → item_with power base ≡ Some item → item_with item.power base ≡ Some item
base_read power base item is = ap (λ p. item_with p base) (sym (power_of_item power base item is)) ∙ is

pub base_of_word : (word : List ℕ) (item : ItemText) → None ≡ position (λ b. eqb b 94) word → item_of word ≡ Some item → item_with item.power word ≡ Some item
base_of_word word item none is = base_read None word item (sym (whole_word word none) ∙ is)

pub base_before : (word : List ℕ) (at : ℕ) (item : ItemText) → Some at ≡ position (λ b. eqb b 94) word → item_of word ≡ Some item → item_with item.power (take at word) ≡ Some item
base_before word at item found is = go (power_of (take (length word - (at + 1)) (drop (at + 1) word))) (sym (word_with_power word at found) ∙ is)
  where
    go : (power : Option ℕ) → option_and_then (λ n. item_with (Some n) (take at word)) power ≡ Some item → item_with item.power (take at word) ≡ Some item
    go None is = absurd (cc)
    go (Some n) is = base_read (Some n) (take at word) item is

named : (power : Option ℕ) (names : Option (List (List ℕ))) (item : ItemText) → label_item power names ≡ Some item → names ≡ Some item.names
named power None item is = absurd (cc)
named power (Some []) item is = absurd (cc)
named power (Some (name ∷ [])) item is = let same : record { names = name ∷ []; group = false; power = power } ≡ item = cc in ap (λ i. Some i.names) same
named power (Some (name ∷ next ∷ more)) item is = absurd (cc)

pub names_of_label : (base : List ℕ) (power : Option ℕ) (item : ItemText) → (get_or base 0 0 ≡ 91 → ⊥) → item_with power base ≡ Some item → labels_of base ≡ Some item.names
names_of_label [] power item apart is = absurd (cc)
names_of_label (b ∷ text) power item apart is =
    let no : eqb b 91 ≡ false = grind (arith, nat_tests) in
    named power (labels_of (b ∷ text)) item (sym (ap (λ t. cond t (group_with power text) (label_item power (labels_of (b ∷ text)))) no) ∙ is)

pub names_of_group : (base : List ℕ) (power : Option ℕ) (item : ItemText) → get_or base 0 0 ≡ 91 → item_with power base ≡ Some item
    → labels_of (take (length base - 1 - 1) (drop 1 base)) ≡ Some item.names
names_of_group [] power item opens is = absurd (cc)
names_of_group (b ∷ text) power item opens is =
    let group : eqb b 91 ≡ true = grind (arith, nat_tests) in
    ap (λ n. labels_of (take n text)) (let count : suc (length text) - 1 - 1 ≡ length text - 1 = omega arith in count)
    ∙ go (eqb (get_or text (length text - 1) 0) 93) (labels_of (take (length text - 1) text))
    (sym (ap (λ t. cond t (group_with power text) (label_item power (labels_of (b ∷ text)))) group) ∙ is)
  where
    go : (ends : Bool) (names : Option (List (List ℕ))) → cond ends (group_item power names) None ≡ Some item → names ≡ Some item.names
    go true None is = absurd (cc)
    go true (Some names) is = let same : record { names = names; group = true; power = power } ≡ item = cc in ap (λ i. Some i.names) same
    go false names is = absurd (cc)

-- the first word is what the text begins with
pub first_word_within : (inside : Bool) (text : List ℕ) → length (first_of (pieces inside text)) ≤ length text
first_word_within inside [] = omega arith
first_word_within inside (b ∷ text) = go (is_blank b && not inside) (first_word_within (is_inside inside b) text)
  where
    go : (ends : Bool) → length (first_of (pieces (is_inside inside b) text)) ≤ length text
        → length (first_of (cond ends ([] ∷ pieces false text) (onto_first b (pieces (is_inside inside b) text)))) ≤ suc (length text)
    go true rest = omega arith
    go false rest = rw first_onto (omega (arith, rest))

pub first_word_begins : (inside : Bool) (text : List ℕ) → take (length (first_of (pieces inside text))) text ≡ first_of (pieces inside text)
first_word_begins inside [] = refl
first_word_begins inside (b ∷ text) = go (is_blank b && not inside) (first_word_begins (is_inside inside b) text)
  where
    go : (ends : Bool) → take (length (first_of (pieces (is_inside inside b) text))) text ≡ first_of (pieces (is_inside inside b) text)
        → take (length (first_of (cond ends ([] ∷ pieces false text) (onto_first b (pieces (is_inside inside b) text))))) (b ∷ text)
        ≡ first_of (cond ends ([] ∷ pieces false text) (onto_first b (pieces (is_inside inside b) text)))
    go true rest = refl
    go false rest = rw first_onto (ap (λ word. b ∷ word) rest)

-- ---- a word of one letter or digit
not_letter : (b n : ℕ) → is_ascii_alphanumeric b ≡ true → is_ascii_alphanumeric n ≡ false → eqb b n ≡ false
not_letter b n letter none = eqb-apart b n (λ e. false≢true (sym none ∙ ap is_ascii_alphanumeric (sym e) ∙ letter))

pub letter_shape : (word : List ℕ) → (eqb (length word) 1 && is_ascii_alphanumeric (get_or word 0 0)) ≡ true
    → Some (record { group = false; empty = false; power = None }) ≡ option_map shape_of (item_of word)
letter_shape [] h = absurd (false≢true h)
letter_shape (b ∷ []) h =
    let letter : is_ascii_alphanumeric b ≡ true = h in
    let caret = not_letter b 94 letter refl in
    let bracket = not_letter b 91 letter refl in
    let space = not_letter b 32 letter refl in
    let tab = not_letter b 9 letter refl in
    let end = not_letter b 13 letter refl in
    let paren = not_letter b 40 letter refl in
    let none : position (λ x. eqb x 94) (b ∷ []) ≡ None = rw caret refl in
    sym (ap (option_map shape_of) (whole_word (b ∷ []) (sym none)) ∙ rw (bracket, space, tab, end, paren, letter) refl)
letter_shape (b ∷ c ∷ word) h = absurd (let one : length (b ∷ c ∷ word) ≡ 1 = eqb-true (length (b ∷ c ∷ word)) 1 (and-true (eqb (length (b ∷ c ∷ word)) 1) (is_ascii_alphanumeric b) h).0 in omega arith)
