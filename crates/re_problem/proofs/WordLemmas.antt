-- The words of a line, read one after another.
use Rattle.std.proofs.Common.{◌≡◌, ℕ, suc, ◌<◌, ◌≤◌, ◌+◌, ◌-◌, Bool, true, false, cond, not, ◌&&◌, leb, eqb, List, [], ◌∷◌, length, filter, take, drop, get_or, length-drop, refl, sym, ap, ◌∙◌, subst, arith, Option, Some, None, one-add, ◌⊎◌, inl, inr}
use Rattle.std.specs.Prelude.{slice_range}
use Rattle.std.specs.List.{onto_first, prefix_len}
use Rattle.std.proofs.lemmas.List.{drop-drop, drop_all}
use Rattle.std.proofs.lemmas.List.Sums.{prefix_len-le-length}
use Rattle.std.proofs.lemmas.Bool.Decides.{nat_tests, leb_tells}
use Rattle.re_problem.proofs.ItemShapes.{length-slice_range, first_word_begins, first_word_within}
use Rattle.re_problem.proofs.Scanning.{drop_at, first_onto, no_blank}
use Rattle.re_problem.specs.Bytes.{behind_blanks, is_blank, is_empty_line}
use Rattle.re_labels.proofs.Tests.{and-true}
use Rattle.re_problem.specs.Items.{ItemText, degree_word, empty_degree, power_of, is_inside, item_of, items_of_words, pieces, with_item, words}
use Rattle.re_problem.specs.ItemSteps.{StandsOn, first_of, first_word, is_nil, item_at, step_at, step_of_word}
use Rattle.re_problem.specs.declared.items.Item.{Item}
use Rattle.re_problem.specs.declared.items.ItemStep.TheVariants as step

abbrev long : List ℕ → Bool
long word = leb 1 (length word)

abbrev rest_of : List (List ℕ) → List (List ℕ)
rest_of [] = []
rest_of (piece ∷ pieces) = pieces

-- a blank outside brackets belongs to no word
pub blank_passed : (b : ℕ) (text : List ℕ) → is_blank b ≡ true → words (b ∷ text) ≡ words text
blank_passed b text blank = ap (λ t. filter long (cond (t && true) ([] ∷ pieces false text) (onto_first b (pieces (is_inside false b) text)))) blank

blanks_passed : (text : List ℕ) → words text ≡ words (drop (prefix_len is_blank text) text)
blanks_passed [] = refl
blanks_passed (b ∷ text) = go (is_blank b) refl (blanks_passed text)
  where
    go : (blank : Bool) → is_blank b ≡ blank → words text ≡ words (drop (prefix_len is_blank text) text) → words (b ∷ text) ≡ words (drop (prefix_len is_blank (b ∷ text)) (b ∷ text))
    go true is rest = blank_passed b text is ∙ rest
        ∙ ap (λ n. words (drop n (b ∷ text))) (let n : suc (prefix_len is_blank text) ≡ prefix_len is_blank (b ∷ text) = sym (ap (λ t. cond t (1 + prefix_len is_blank text) 0) is ∙ one-add (prefix_len is_blank text)) in n)
    go false is rest = sym (ap (λ n. words (drop n (b ∷ text))) (let none : prefix_len is_blank (b ∷ text) ≡ 0 = ap (λ t. cond t (1 + prefix_len is_blank text) 0) is in none))

rest_onto : (b : ℕ) (parts : List (List ℕ)) → rest_of (onto_first b parts) ≡ rest_of parts
rest_onto b [] = refl
rest_onto b (part ∷ parts) = refl

whole_onto : (b : ℕ) (parts : List (List ℕ)) → onto_first b parts ≡ first_of (onto_first b parts) ∷ rest_of (onto_first b parts)
whole_onto b [] = refl
whole_onto b (part ∷ parts) = refl

first_and_rest : (inside : Bool) (text : List ℕ) → pieces inside text ≡ first_of (pieces inside text) ∷ rest_of (pieces inside text)
first_and_rest inside [] = refl
first_and_rest inside (b ∷ text) = go (is_blank b && not inside)
  where
    go : (ends : Bool) → let parts : List (List ℕ) = cond ends ([] ∷ pieces false text) (onto_first b (pieces (is_inside inside b) text)) in parts ≡ first_of parts ∷ rest_of parts
    go true = refl
    go false = whole_onto b (pieces (is_inside inside b) text)

and-left : (a b : Bool) → (a && b) ≡ true → a ≡ true
and-left true b h = refl
and-left false b h = h

rest_words : (inside : Bool) (text : List ℕ) → filter long (rest_of (pieces inside text)) ≡ words (drop (length (first_of (pieces inside text))) text)
rest_words inside [] = refl
rest_words inside (b ∷ text) = go (is_blank b && not inside) (and-left (is_blank b) (not inside)) (rest_words (is_inside inside b) text)
  where
    behind : List (List ℕ)
    behind = pieces (is_inside inside b) text

    go : (ends : Bool) → (ends ≡ true → is_blank b ≡ true) → filter long (rest_of behind) ≡ words (drop (length (first_of behind)) text)
        → let parts : List (List ℕ) = cond ends ([] ∷ pieces false text) (onto_first b behind) in filter long (rest_of parts) ≡ words (drop (length (first_of parts)) (b ∷ text))
    go true blank rest = sym (blank_passed b text (blank refl))
    go false blank rest = ap (filter long) (rest_onto b behind) ∙ rest ∙ sym (ap (λ word. words (drop (length word) (b ∷ text))) (first_onto b behind))

is_long : (n : ℕ) → leb 1 (suc n) ≡ true
is_long n = grind (arith, nat_tests)

-- the first word and those behind it
word_and_rest : (text : List ℕ) (b : ℕ) (word : List ℕ) → first_word text ≡ b ∷ word → words text ≡ (b ∷ word) ∷ words (drop (length (b ∷ word)) text)
word_and_rest text b word first =
    ap (filter long) (first_and_rest false text) ∙ ap (λ w. filter long (w ∷ rest_of (pieces false text))) first
    ∙ ap (λ t. cond t ((b ∷ word) ∷ filter long (rest_of (pieces false text))) (filter long (rest_of (pieces false text)))) (is_long (length word))
    ∙ ap (λ words. (b ∷ word) ∷ words) (rest_words false text ∙ ap (λ w. words (drop (length w) text)) first)

filled_first : (b : ℕ) (text : List ℕ) → is_blank b ≡ false → (word : List ℕ) × (first_word (b ∷ text) ≡ b ∷ word)
filled_first b text blank = (
  first_of (pieces (is_inside false b) text),
  ap (λ t. first_of (cond (t && true) ([] ∷ pieces false text) (onto_first b (pieces (is_inside false b) text)))) blank ∙ first_onto b (pieces (is_inside false b) text),
)

module _ (line : List ℕ) (at : ℕ) where
  place : ℕ
  place = behind_blanks line at

  skipped_words : words (drop at line) ≡ words (drop (behind_blanks line at) line)
  skipped_words = blanks_passed (drop at line) ∙ ap words (drop-drop (prefix_len is_blank (drop at line)) at line)

  no_words : first_word (drop (behind_blanks line at) line) ≡ [] → words (drop at line) ≡ []
  no_words none = go (leb_tells (length line) (behind_blanks line at))
    where
      go : ((leb (length line) (behind_blanks line at) ≡ true) × (length line ≤ behind_blanks line at)) ⊎ ((leb (length line) (behind_blanks line at) ≡ false) × (behind_blanks line at < length line)) → words (drop at line) ≡ []
      go (inl over) = skipped_words ∙ ap words (drop_all (behind_blanks line at) line over.1)
      go (inr under) =
          let some = filled_first (get_or line (behind_blanks line at) 0) (drop (behind_blanks line at + 1) line) (no_blank line at under.1) in
          let clash : get_or line (behind_blanks line at) 0 ∷ some.0 ≡ [] = sym some.1 ∙ ap first_word (sym (drop_at line (behind_blanks line at) under.1)) ∙ none in
          absurd (cc)

  place_within : at ≤ length line → behind_blanks line at ≤ length line
  place_within within = omega (arith, length-drop at line, prefix_len-le-length is_blank (drop at line))

-- an item that a step gives: where it stands, and what is left behind it
pub record NextItem (line : List ℕ) (at : ℕ) (item : Item) (text : ItemText) : Type 0 where
  pub on : at < item.to
  pub ordered : item.from ≤ item.to
  pub within : item.to ≤ length line
  pub read : item_of (slice_range line item.from item.to) ≡ Some text
  pub words : words (drop at line) ≡ slice_range line item.from item.to ∷ words (drop item.to line)
  pub power : item.power ≡ text.power
  pub empty : item.empty ≡ is_nil text.names

pub next_found : (line : List ℕ) (at : ℕ) (item : Item) → at ≤ length line → step_at line at ≡ step.Item item → (text : ItemText) × NextItem line at item text
next_found line at item within is = go (first_word (drop (behind_blanks line at) line)) refl is
  where
    from : ℕ
    from = behind_blanks line at

    read : (b : ℕ) (word : List ℕ) → first_word (drop from line) ≡ b ∷ word → (text : Option ItemText) → item_of (b ∷ word) ≡ text
        → item_at from (from + length (b ∷ word)) text ≡ step.Item item → (text : ItemText) × NextItem line at item text
    read b word first None text step = absurd (cc)
    read b word first (Some found) text step =
        let same : record { from = from; to = from + length (b ∷ word); group = found.group; empty = is_nil found.names; power = found.power } ≡ item = cc in
        let starts : from ≡ item.from = ap (λ i. i.from) same in
        let ends : from + length (b ∷ word) ≡ item.to = ap (λ i. i.to) same in
        let size : length (b ∷ word) ≤ length (drop from line) = subst (λ w. length w ≤ length (drop from line)) first (first_word_within false (drop from line)) in
        let low = place_within line at within in
        let cut : slice_range line item.from item.to ≡ b ∷ word =
        (λ i. take (let n : item.to - item.from ≡ length (b ∷ word) = omega arith in n i) (drop (sym starts i) line))
        ∙ ap (λ w. take (length w) (drop from line)) (sym first) ∙ first_word_begins false (drop from line) ∙ first in (
          found,
          record {
            on = omega arith;
            ordered = omega arith;
            within = omega (arith, length-drop from line);
            read = ap item_of cut ∙ text;
            words = skipped_words line at ∙ word_and_rest (drop from line) b word first
                ∙ (λ i. (sym cut i) ∷ words ((drop-drop (length (b ∷ word)) from line ∙ ap (λ n. drop n line) (let n : from + length (b ∷ word) ≡ item.to = omega arith in n)) i));
            power = sym (ap (λ i. i.power) same);
            empty = sym (ap (λ i. i.empty) same);
          },
        )

    go : (word : List ℕ) → first_word (drop from line) ≡ word → step_of_word from word ≡ step.Item item → (text : ItemText) × NextItem line at item text
    go [] first step = absurd (cc)
    go (b ∷ word) first step = read b word first (item_of (b ∷ word)) refl step

-- no item is left
pub items_end : (line : List ℕ) (at : ℕ) → step_at line at ≡ step.End → words (drop at line) ≡ []
items_end line at is = go (first_word (drop (behind_blanks line at) line)) refl is
  where
    from : ℕ
    from = behind_blanks line at

    no_end : (text : Option ItemText) (to : ℕ) → item_at from to text ≡ step.End → ⊥
    no_end None to is = cc
    no_end (Some text) to is = cc

    go : (word : List ℕ) → first_word (drop from line) ≡ word → step_of_word from word ≡ step.End → words (drop at line) ≡ []
    go [] first step = no_words line at first
    go (b ∷ word) first step = absurd (no_end (item_of (b ∷ word)) (from + length (b ∷ word)) step)

-- the next word is no item
pub items_bad : (line : List ℕ) (at : ℕ) → step_at line at ≡ step.Bad → items_of_words (words (drop at line)) ≡ None
items_bad line at is = go (first_word (drop (behind_blanks line at) line)) refl is
  where
    from : ℕ
    from = behind_blanks line at

    none : (to : ℕ) (text : Option ItemText) → item_at from to text ≡ step.Bad → text ≡ None
    none to None is = refl
    none to (Some text) is = absurd (cc)

    no_items : (rest : Option (List ItemText)) → with_item None rest ≡ None
    no_items None = refl
    no_items (Some items) = refl

    go : (word : List ℕ) → first_word (drop from line) ≡ word → step_of_word from word ≡ step.Bad → items_of_words (words (drop at line)) ≡ None
    go [] first step = absurd (cc)
    go (b ∷ word) first step =
        ap items_of_words (skipped_words line at ∙ word_and_rest (drop from line) b word first)
        ∙ ap (λ text. with_item text (items_of_words (words (drop (length (b ∷ word)) (drop from line))))) (none (from + length (b ∷ word)) (item_of (b ∷ word)) step)
        ∙ no_items (items_of_words (words (drop (length (b ∷ word)) (drop from line))))

-- ---- one word
pub next_word : (line : List ℕ) (at from to : ℕ) → from ≡ behind_blanks line at → slice_range line from to ≡ first_word (drop from line) → from ≤ to → to ≤ length line → (from ≡ to → ⊥)
    → words (drop at line) ≡ slice_range line from to ∷ words (drop to line)
next_word line at from to place word ordered within apart = go (slice_range line from to) refl
  where
    size : length (slice_range line from to) ≡ to - from
    size = length-slice_range line from to ordered within

    go : (text : List ℕ) → slice_range line from to ≡ text → words (drop at line) ≡ slice_range line from to ∷ words (drop to line)
    go [] cut = let none : length (slice_range line from to) ≡ 0 = ap length cut in absurd (apart (omega (arith, size)))
    go (b ∷ rest) cut =
        skipped_words line at ∙ ap (λ n. words (drop n line)) (sym place) ∙ word_and_rest (drop from line) b rest (sym word ∙ cut)
        ∙ (λ i. (sym cut i) ∷ words ((drop-drop (length (b ∷ rest)) from line
        ∙ ap (λ n. drop n line) (let n : from + length (b ∷ rest) ≡ to = omega (arith, size, ap length cut) in n)) i))

pub no_word : (line : List ℕ) (at from to : ℕ) → from ≡ behind_blanks line at → slice_range line from to ≡ first_word (drop from line) → from ≡ to → words (drop at line) ≡ []
no_word line at from to place word same =
    no_words line at (ap (λ n. first_word (drop n line)) (sym place) ∙ sym word ∙ ap (λ n. take n (drop from line)) (let none : to - from ≡ 0 = omega arith in none))

pub blanks_left : (line : List ℕ) (at : ℕ) → behind_blanks line at ≡ length line → words (drop at line) ≡ []
blanks_left line at end = skipped_words line at ∙ ap words (drop_all (behind_blanks line at) line (omega arith))

pub word_left : (line : List ℕ) (at : ℕ) → behind_blanks line at < length line → (word : List ℕ) × (more : List (List ℕ)) × (words (drop at line) ≡ word ∷ more)
word_left line at below =
    let place : ℕ = behind_blanks line at in
    let some = filled_first (get_or line (behind_blanks line at) 0) (drop (behind_blanks line at + 1) line) (no_blank line at below) in
    let first : first_word (drop (behind_blanks line at) line) ≡ get_or line (behind_blanks line at) 0 ∷ some.0 = ap first_word (drop_at line (behind_blanks line at) below) ∙ some.1 in (
      get_or line (behind_blanks line at) 0 ∷ some.0,
      words (drop (length (get_or line (behind_blanks line at) 0 ∷ some.0)) (drop (behind_blanks line at) line)),
      skipped_words line at ∙ word_and_rest (drop (behind_blanks line at) line) (get_or line (behind_blanks line at) 0) some.0 first,
    )

pub slice_first : (xs : List ℕ) (from to : ℕ) → from < to → to ≤ length xs → slice_range xs from to ≡ get_or xs from 0 ∷ slice_range xs (from + 1) to
slice_first xs from to below within =
    ap (take (to - from)) (drop_at xs from (omega arith))
    ∙ ap (λ n. take n (get_or xs from 0 ∷ drop (from + 1) xs)) (let n : to - from ≡ suc (to - (from + 1)) = omega arith in n)

-- a line of one word
module _ (line : List ℕ) (from to : ℕ) (one : words line ≡ slice_range line from to ∷ words (drop to line)) (below : from < to) (within : to ≤ length line) where
  pub two_words : behind_blanks line to < length line → None ≡ empty_degree line
  two_words more =
      let next = word_left line to more in
      sym (ap degree_word (one ∙ ap (λ words. slice_range line from to ∷ words) next.2 ∙ ap (λ word. word ∷ next.0 ∷ next.1) (slice_first line from to below within)))

  one_word : behind_blanks line to ≡ length line → empty_degree line ≡ cond (eqb (get_or line from 0) 37) (power_of (slice_range line (from + 1) to)) None
  one_word end = ap degree_word (one ∙ ap (λ words. slice_range line from to ∷ words) (blanks_left line to end) ∙ ap (λ word. word ∷ []) (slice_first line from to below within))

  pub no_percent : behind_blanks line to ≡ length line → (get_or line from 0 ≡ 37 → ⊥) → None ≡ empty_degree line
  no_percent end apart =
      let no : eqb (get_or line from 0) 37 ≡ false = grind (arith, nat_tests) in
      sym (one_word end ∙ ap (λ t. cond t (power_of (slice_range line (from + 1) to)) None) no)

  pub percent : behind_blanks line to ≡ length line → get_or line from 0 ≡ 37 → power_of (slice_range line (from + 1) to) ≡ empty_degree line
  percent end is =
      let yes : eqb (get_or line from 0) 37 ≡ true = grind (arith, nat_tests) in
      sym (one_word end ∙ ap (λ t. cond t (power_of (slice_range line (from + 1) to)) None) yes)

-- ---- an item that stands on a line
pub record FoundItem (line : List ℕ) (item : Item) : Type 0 where
  pub ordered : item.from ≤ item.to
  pub within : item.to ≤ length line
  pub text : (text : ItemText) × (item_of (slice_range line item.from item.to) ≡ Some text)

pub found_item : (line : List ℕ) (item : Item) → StandsOn item line → FoundItem line item
found_item line item (at, within, is) = let found = next_found line at item within is in record { ordered = found.1.ordered; within = found.1.within; text = (found.0, found.1.read) }

-- a line of blanks alone has no word
pub no_words_of_blanks : (line : List ℕ) → is_empty_line line ≡ true → words line ≡ []
no_words_of_blanks [] empty = refl
no_words_of_blanks (b ∷ line) empty = let both = and-true (is_blank b) (is_empty_line line) empty in blank_passed b line both.0 ∙ no_words_of_blanks line both.1
