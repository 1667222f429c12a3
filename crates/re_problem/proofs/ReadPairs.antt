-- The two items of a line, one after the other.
use Rattle.re_labels.proofs.Tests.{and-false}
use Rattle.std.proofs.Common.{◌≡◌, ℕ, ◌≤◌, ◌+◌, ◌-◌, Bool, true, false, cond, ◌&&◌, List, [], ◌∷◌, length, take, drop, refl, sym, ap, ◌∙◌, arith, length-drop, Option, Some, None, is_some, is_none, ◌⊎◌, inl, inr}
use Rattle.std.specs.Prelude.{slice_range}
use Rattle.std.proofs.lemmas.Bool.{false≢true}
use Rattle.std.proofs.lemmas.List.Sums.{prefix_len-le-length}
use Rattle.re_problem.proofs.WordLemmas.{NextItem, items_bad, items_end, next_found}
use Rattle.re_problem.specs.Items.{ItemText, item_of, items_of_words, with_item, words}
use Rattle.re_problem.proofs.ItemShapes.{first_word_begins}
use Rattle.re_problem.specs.Bytes.{behind_blanks, is_blank}
use Rattle.re_problem.specs.ItemSteps.{first_word, is_nil, item_at, step_at, step_of_word}
use Rattle.re_problem.specs.declared.items.ItemStep.{ItemStep}
use Rattle.re_problem.specs.declared.items.ItemStep.TheVariants as step
use Rattle.re_problem.specs.declared.items.Item.{Item}
use Rattle.re_problem.specs.Pairs.{pair_in, pair_on}
use Rattle.re_problem.specs.Readings.{ReadsItem}

none_of_some : (o p : Option ℕ) → o ≡ p → is_some o ≡ true → is_none p ≡ false
none_of_some None p is some = absurd (false≢true some)
none_of_some (Some x) None is some = absurd (cc)
none_of_some (Some x) (Some y) is some = refl

none_of_none : (o p : Option ℕ) → o ≡ p → is_some o ≡ false → is_none p ≡ true
none_of_none (Some x) p is none = absurd (false≢true (sym none))
none_of_none None None is none = refl
none_of_none None (Some y) is none = absurd (cc)

-- ---- two items
abbrev rest_from : List ℕ → ℕ → Option (List ItemText)
rest_from line at = items_of_words (words (drop at line))

one_item : (line : List ℕ) (at : ℕ) (item : Item) (text : ItemText) → NextItem line at item text → rest_from line at ≡ with_item (Some text) (rest_from line item.to)
one_item line at item text next = ap items_of_words next.words ∙ ap (λ t. with_item t (rest_from line item.to)) next.read

no_item : (line : List ℕ) (at : ℕ) (s : ItemStep) → s ≡ step_at line at → ((item : Item) → s ≡ step.Item item → ⊥) → (rest_from line at ≡ Some []) ⊎ (rest_from line at ≡ None)
no_item line at (step.Item item) is apart = absurd (apart item refl)
no_item line at step.End is apart = inl (ap items_of_words (items_end line at (sym is)))
no_item line at step.Bad is apart = inr (items_bad line at (sym is))

pub no_left : (line : List ℕ) (s : ItemStep) → s ≡ step_at line 0 → ((item : Item) → s ≡ step.Item item → ⊥) → pair_on line ≡ None
no_left line s is apart = go (no_item line 0 s is apart)
  where
    go : (rest_from line 0 ≡ Some []) ⊎ (rest_from line 0 ≡ None) → pair_on line ≡ None
    go (inl end) = ap pair_in end
    go (inr bad) = ap pair_in bad

module _ (line : List ℕ) (left : Item) (a : ItemText) (first : NextItem line 0 left a) where
  pub no_right : (s : ItemStep) → s ≡ step_at line left.to → ((item : Item) → s ≡ step.Item item → ⊥) → pair_on line ≡ None
  no_right s is apart = ap pair_in (one_item line 0 left a first) ∙ go (no_item line left.to s is apart)
    where
      go : (rest_from line left.to ≡ Some []) ⊎ (rest_from line left.to ≡ None) → pair_in (with_item (Some a) (rest_from line left.to)) ≡ None
      go (inl end) = ap (λ r. pair_in (with_item (Some a) r)) end
      go (inr bad) = ap (λ r. pair_in (with_item (Some a) r)) bad

  module _ (right : Item) (b : ItemText) (second : NextItem line left.to right b) where
    both_read : pair_on line ≡ pair_in (with_item (Some a) (with_item (Some b) (rest_from line right.to)))
    both_read = ap pair_in (one_item line 0 left a first) ∙ ap (λ r. pair_in (with_item (Some a) r)) (one_item line left.to right b second)

    pub third_item : (s : ItemStep) → s ≡ step_at line right.to → (s ≡ step.End → ⊥) → right.to ≤ length line → pair_on line ≡ None
    third_item (step.Item item) is apart within =
        let third = next_found line right.to item within (sym is) in
        both_read ∙ ap (λ r. pair_in (with_item (Some a) (with_item (Some b) r))) (one_item line right.to item third.0 third.1) ∙ go third.0 (rest_from line item.to)
      where
        go : (c : ItemText) (rest : Option (List ItemText)) → pair_in (with_item (Some a) (with_item (Some b) (with_item (Some c) rest))) ≡ None
        go c None = refl
        go c (Some items) = refl
    third_item step.End is apart within = absurd (apart refl)
    third_item step.Bad is apart within = both_read ∙ ap (λ r. pair_in (with_item (Some a) (with_item (Some b) r))) (items_bad line right.to (sym is))

    pair_read : step.End ≡ step_at line right.to → pair_on line ≡ cond (is_none a.power && is_none b.power) (Some (record { left = a; right = b })) None
    pair_read end = both_read ∙ ap (λ r. pair_in (with_item (Some a) (with_item (Some b) r))) (ap items_of_words (items_end line right.to (sym end)))

    pub left_power : step.End ≡ step_at line right.to → is_some left.power ≡ true → pair_on line ≡ None
    left_power end some = pair_read end ∙ ap (λ t. cond (t && is_none b.power) (Some (record { left = a; right = b })) None) (none_of_some left.power a.power first.power some)

    pub right_power : step.End ≡ step_at line right.to → is_some right.power ≡ true → pair_on line ≡ None
    right_power end some =
        pair_read end ∙ ap (λ t. cond (is_none a.power && t) (Some (record { left = a; right = b })) None) (none_of_some right.power b.power second.power some)
        ∙ ap (λ t. cond t (Some (record { left = a; right = b })) None) (and-false (is_none a.power))

    pub pair_of_items : step.End ≡ step_at line right.to → is_some left.power ≡ false → is_some right.power ≡ false → pair_on line ≡ Some (record { left = a; right = b })
    pair_of_items end x y =
        pair_read end ∙ (λ i. cond (none_of_none left.power a.power first.power x i && none_of_none right.power b.power second.power y i) (Some (record { left = a; right = b })) None)

-- ---- what an item tells
-- the item is a group where its text is
pub reads_item : (line : List ℕ) (at : ℕ) (item : Item) (text : ItemText) → at ≤ length line → step_at line at ≡ step.Item item
    → item_of (slice_range line item.from item.to) ≡ Some text → ReadsItem line item text
reads_item line at item text within is same = record { stands = (at, within, is); text_is = same; group = go (first_word (drop (behind_blanks line at) line)) refl is }
  where
    from : ℕ
    from = behind_blanks line at

    low : behind_blanks line at ≤ length line
    low = omega (arith, within, length-drop at line, prefix_len-le-length is_blank (drop at line))

    read : (b : ℕ) (word : List ℕ) → first_word (drop from line) ≡ b ∷ word → (found : Option ItemText) → item_of (b ∷ word) ≡ found
        → item_at from (from + length (b ∷ word)) found ≡ step.Item item → item.group ≡ text.group
    read b word first None is step = absurd (cc)
    read b word first (Some found) is step =
        let held : record { from = from; to = from + length (b ∷ word); group = found.group; empty = is_nil found.names; power = found.power } ≡ item = cc in
        let starts : from ≡ item.from = ap (λ i. i.from) held in
        let ends : from + length (b ∷ word) ≡ item.to = ap (λ i. i.to) held in
        let cut : slice_range line item.from item.to ≡ b ∷ word =
        (λ i. take (let n : item.to - item.from ≡ length (b ∷ word) = omega arith in n i) (drop (sym starts i) line))
        ∙ ap (λ w. take (length w) (drop from line)) (sym first) ∙ first_word_begins false (drop from line) ∙ first in
        let texts : Some text ≡ Some found = sym same ∙ ap item_of cut ∙ is in
        let equal : text ≡ found = cc in
        sym (ap (λ i. i.group) held) ∙ sym (ap (λ (t : ItemText). t.group) equal)

    go : (word : List ℕ) → first_word (drop from line) ≡ word → step_of_word from word ≡ step.Item item → item.group ≡ text.group
    go [] first step = absurd (cc)
    go (b ∷ word) first step = read b word first (item_of (b ∷ word)) refl step
