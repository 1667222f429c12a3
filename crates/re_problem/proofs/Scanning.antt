-- One byte after another along a text.
use Rattle.std.proofs.Common.{◌≡◌, ℕ, ◌<◌, ◌≤◌, ◌+◌, ◌-◌, Bool, true, false, cond, not, ◌&&◌, eqb, List, [], ◌∷◌, ◌++◌, length, take, drop, get_or, refl, sym, ap, ◌∙◌, subst, arith, add-one, one-add, drop-cons, append_assoc, length-drop, Option, Some, None}
use Rattle.std.specs.Prelude.{if◌then◌else◌, slice_range}
use Rattle.std.specs.List.{onto_first, prefix_len}
use Rattle.std.specs.Char.{is_ascii_alphanumeric}
use Rattle.std.specs.Option.{option_map}
use Rattle.std.proofs.lemmas.List.Sums.{prefix_len_stops}
use Rattle.std.proofs.lemmas.List.{drop_all, drop-drop, get_or-drop, take_more}
use Rattle.std.proofs.lemmas.Bool.Decides.{nat_tests}
use Rattle.re_labels.specs.Names.{is_name}
use Rattle.re_problem.specs.Bytes.{behind_blanks, is_blank}
use Rattle.re_problem.specs.Items.{is_inside, labels_from, pieces, with_name}
use Rattle.re_problem.specs.ItemSteps.{first_of}

pub drop_at : (xs : List ℕ) (i : ℕ) → i < length xs → drop i xs ≡ get_or xs i 0 ∷ drop (i + 1) xs
drop_at xs i below = rw (add-one, drop-cons xs i 0) refl

-- ---- names in parentheses
pub slice_more : (xs : List ℕ) (from to : ℕ) → from ≤ to → to < length xs → slice_range xs from (to + 1) ≡ slice_range xs from to ++ get_or xs to 0 ∷ []
slice_more xs from to ordered below =
    ap (λ n. take n (drop from xs)) (let count : to + 1 - from ≡ to - from + 1 = omega arith in count)
    ∙ take_more (drop from xs) (to - from) 0 (rw length-drop (omega arith))
    ∙ ap (λ x. take (to - from) (drop from xs) ++ x ∷ []) (get_or-drop from xs (to - from) 0 ∙ ap (λ k. get_or xs k 0) (let at : from + (to - from) ≡ to = omega arith in at))

pub name_goes_on : (text : List ℕ) (from to : ℕ) → from ≤ to → to < length text → (get_or text to 0 ≡ 41 → ⊥)
    → labels_from (Some (slice_range text from to)) (drop to text) ≡ labels_from (Some (slice_range text from (to + 1))) (drop (to + 1) text)
name_goes_on text from to ordered below apart =
    let no : eqb (get_or text to 0) 41 ≡ false = grind (arith, nat_tests) in
    rw (drop_at text to below, slice_more text from to ordered below, no) refl

-- ---- labels
-- what labels a text writes is told behind its blanks
blanks_alone : (text : List ℕ) → labels_from None text ≡ labels_from None (drop (prefix_len is_blank text) text)
blanks_alone [] = refl
blanks_alone (b ∷ text) = go (is_blank b) refl (blanks_alone text)
  where
    go : (blank : Bool) → is_blank b ≡ blank → labels_from None text ≡ labels_from None (drop (prefix_len is_blank text) text) → labels_from None (b ∷ text) ≡ labels_from None (drop (prefix_len is_blank (b ∷ text)) (b ∷ text))
    go true is rest = rw (is, one-add) rest
    go false is rest = sym (ap (λ n. labels_from None (drop n (b ∷ text))) (let none : prefix_len is_blank (b ∷ text) ≡ 0 = ap (λ t. cond t (1 + prefix_len is_blank text) 0) is in none))

pub blanks_skipped : (text : List ℕ) (at : ℕ) → labels_from None (drop at text) ≡ labels_from None (drop (behind_blanks text at) text)
blanks_skipped text at = blanks_alone (drop at text) ∙ ap (labels_from None) (drop-drop (prefix_len is_blank (drop at text)) at text)

-- where the blanks end, no blank stands
pub no_blank : (text : List ℕ) (at : ℕ) → behind_blanks text at < length text → is_blank (get_or text (behind_blanks text at) 0) ≡ false
no_blank text at below =
    subst (λ x. is_blank x ≡ false) (get_or-drop at text (prefix_len is_blank (drop at text)) 0)
    (prefix_len_stops is_blank (drop at text) 0 (rw length-drop (omega arith)))

module _ (text : List ℕ) (at from : ℕ) (place : from ≡ behind_blanks text at) where
  skipped : labels_from None (drop at text) ≡ labels_from None (drop from text)
  skipped = blanks_skipped text at ∙ ap (λ n. labels_from None (drop n text)) (sym place)

  filled : from < length text → is_blank (get_or text from 0) ≡ false
  filled below = subst (λ n. is_blank (get_or text n 0) ≡ false) (sym place) (no_blank text at (subst (λ n. n < length text) place below))

  -- behind the blanks the text ends
  pub ended : from ≡ length text → labels_from None (drop at text) ≡ Some []
  ended end = skipped ∙ ap (labels_from None) (drop_all from text (omega arith))

  here : from < length text → labels_from None (drop at text) ≡ labels_from None (get_or text from 0 ∷ drop (from + 1) text)
  here below = skipped ∙ ap (labels_from None) (drop_at text from below)

  -- a parenthesis opens a name
  pub opened : from < length text → get_or text from 0 ≡ 40 → labels_from None (drop at text) ≡ labels_from (Some []) (drop (from + 1) text)
  opened below is = here below ∙ ap (λ b. labels_from None (b ∷ drop (from + 1) text)) is

  -- a byte that begins no label
  pub wrong : from < length text → (get_or text from 0 ≡ 40 → ⊥) → is_ascii_alphanumeric (get_or text from 0) ≡ false → labels_from None (drop at text) ≡ None
  wrong below apart no_label =
      let no : eqb (get_or text from 0) 40 ≡ false = grind (arith, nat_tests) in
      here below ∙ rw (filled below, no, no_label) refl

  -- a letter or digit
  pub labelled : from < length text → (get_or text from 0 ≡ 40 → ⊥) → is_ascii_alphanumeric (get_or text from 0) ≡ true
      → labels_from None (drop at text) ≡ with_name (get_or text from 0 ∷ []) (labels_from None (drop (from + 1) text))
  labelled below apart label =
      let no : eqb (get_or text from 0) 40 ≡ false = grind (arith, nat_tests) in
      here below ∙ rw (filled below, no, label) refl

pub slice_one : (xs : List ℕ) (i : ℕ) → i < length xs → slice_range xs i (i + 1) ≡ get_or xs i 0 ∷ []
slice_one xs i below = slice_more xs i i (omega arith) below ∙ ap (λ n. take n (drop i xs) ++ get_or xs i 0 ∷ []) (let none : i - i ≡ 0 = omega arith in none)

-- a letter or digit is a name
pub byte_is_name : (b : ℕ) → is_ascii_alphanumeric b ≡ true → is_name (b ∷ []) ≡ true
byte_is_name b label = rw label refl

pub no_name : (test : Bool) (names : Option (List (List ℕ))) → test ≡ false → (if test then names else None) ≡ None
no_name test names is = rw is refl

pub a_name : (test : Bool) (names : Option (List (List ℕ))) → test ≡ true → (if test then names else None) ≡ names
a_name test names is = rw is refl

-- names in front of those that are read
abbrev pub in_front : List (List ℕ) → Option (List (List ℕ)) → Option (List (List ℕ))
in_front front None = None
in_front front (Some names) = Some (front ++ names)

-- ---- words
pub first_onto : (b : ℕ) (parts : List (List ℕ)) → first_of (onto_first b parts) ≡ b ∷ first_of parts
first_onto b [] = refl
first_onto b (part ∷ parts) = refl

-- a word that goes on at a byte
pub word_goes_on : (line : List ℕ) (from to : ℕ) (inside : Bool) → from ≤ to → to < length line → (is_blank (get_or line to 0) && not inside) ≡ false
    → slice_range line from to ++ first_of (pieces inside (drop to line)) ≡ slice_range line from (to + 1) ++ first_of (pieces (is_inside inside (get_or line to 0)) (drop (to + 1) line))
word_goes_on line from to inside ordered below stays =
    ap (λ word. slice_range line from to ++ word)
    (ap (λ text. first_of (pieces inside text)) (drop_at line to below) ∙ (rw stays (first_onto (get_or line to 0) (pieces (is_inside inside (get_or line to 0)) (drop (to + 1) line)))))
    ∙ sym (append_assoc (slice_range line from to) (get_or line to 0 ∷ []) (first_of (pieces (is_inside inside (get_or line to 0)) (drop (to + 1) line))))
    ∙ ap (λ front. front ++ first_of (pieces (is_inside inside (get_or line to 0)) (drop (to + 1) line))) (sym (slice_more line from to ordered below))

-- ---- labels, counted
pub counted_on : (count : ℕ) (name : List ℕ) (names : Option (List (List ℕ))) → option_map (λ all. count + length all) (with_name name names) ≡ option_map (λ all. count + 1 + length all) names
counted_on count name None = refl
counted_on count name (Some names) = ap Some (let more : count + length (name ∷ names) ≡ count + 1 + length names = omega arith in more)
