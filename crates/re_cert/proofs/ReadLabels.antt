-- The items of a line of labels, one after another.
use Rattle.std.proofs.Common.{◌≡◌, ℕ, suc, ◌<◌, ◌≤◌, ◌+◌, Bool, true, false, cond, not, ◌&&◌, eqb, List, [], ◌∷◌, ◌++◌, length, drop, refl, sym, ap, ◌∙◌, subst, arith, length-append, Option, Some, None, is_some, is_none, eq-eqb}
use Rattle.std.specs.List.{list_all}
use Rattle.std.specs.Option.{option_and_then}
use Rattle.std.specs.Prelude.{slice_range}
use Rattle.std.proofs.lemmas.Bool.{false≢true}
use Rattle.std.proofs.lemmas.Bool.Decides.{nat_tests}
use Rattle.re_problem.proofs.WordLemmas.{NextItem}
use Rattle.re_problem.specs.Items.{ItemText, item_of, items_of, items_of_words, words}
use Rattle.re_problem.specs.declared.items.Item.{Item}
use Rattle.re_labels.proofs.Tests.{and-true}
use Rattle.re_problem.proofs.WrittenLines.{ReadItems, items_all, items_in_front, nothing_read, one_read}
use Rattle.re_cert.specs.Entries.{image_labels, is_single, label_items, labels_in, of_length, singles_in, with_held}
use Rattle.re_problem.specs.Pairs.{label_held}

-- ---- lists of items
all_but : (xs : List ItemText) (x : ItemText) (ys : List ItemText) → is_single x ≡ false → list_all is_single ((xs ++ x ∷ []) ++ ys) ≡ false
all_but [] x ys fails = ap (λ t. t && list_all is_single ys) fails
all_but (y ∷ xs) x ys fails = and_none (is_single y) (list_all is_single ((xs ++ x ∷ []) ++ ys)) (all_but xs x ys fails)
  where
    and_none : (t u : Bool) → u ≡ false → (t && u) ≡ false
    and_none true u e = e
    and_none false u e = refl

all_more : (xs : List ItemText) (x : ItemText) → list_all is_single xs ≡ true → is_single x ≡ true → list_all is_single (xs ++ x ∷ []) ≡ true
all_more [] x all one = ap (λ t. t && true) one
all_more (y ∷ xs) x all one =
    let both = and-true (is_single y) (list_all is_single xs) all in
    λ i. both.0 i && all_more xs x both.1 one i

-- ---- a line of labels
pub record LabelItems (line : List ℕ) (at : ℕ) (front : List ItemText) : Type 0 where
  pub read : ReadItems line at front
  pub singles : list_all is_single front ≡ true

pub no_labels : (line : List ℕ) → LabelItems line 0 []
no_labels line = record { read = nothing_read line; singles = refl }

module _ (line : List ℕ) (at : ℕ) (front : List ItemText) (f : LabelItems line at front) where
  pub one_label : (item : Item) (text : ItemText) → NextItem line at item text → item.group ≡ text.group → item.group ≡ false → is_some item.power ≡ false → LabelItems line item.to (front ++ text ∷ [])
  one_label item text next group alone none = record {
    read = one_read line at front f.read item text next;
    singles = all_more front text f.singles (λ i. not ((sym group ∙ alone) i) && none_is (item.power) text.power next.power none i);
  }
    where
      none_is : (o p : Option ℕ) → o ≡ p → is_some o ≡ false → is_none p ≡ true
      none_is None None is none = refl
      none_is None (Some y) is none = absurd (cc)
      none_is (Some x) p is none = absurd (false≢true (sym none))

  other_item : (item : Item) (text : ItemText) → NextItem line at item text → is_single text ≡ false → false ≡ is_some (label_items line)
  other_item item text next fails = sym (ap (λ o. is_some (singles_in o)) (one_read line at front f.read item text next).whole ∙ go (items_of_words (words (drop item.to line))))
    where
      go : (rest : Option (List ItemText)) → is_some (singles_in (items_in_front (front ++ text ∷ []) rest)) ≡ false
      go None = refl
      go (Some behind) = ap (λ t. is_some (cond t (Some ((front ++ text ∷ []) ++ behind)) None)) (all_but front text behind fails)

  pub group_item : (item : Item) (text : ItemText) → NextItem line at item text → item.group ≡ text.group → item.group ≡ true → false ≡ is_some (label_items line)
  group_item item text next group grouped = other_item item text next (ap (λ t. not t && is_none text.power) (sym group ∙ grouped))

  pub power_item : (item : Item) (text : ItemText) → NextItem line at item text → is_some item.power ≡ true → false ≡ is_some (label_items line)
  power_item item text next some = other_item item text next (go item.power text.power next.power some (not text.group))
    where
      go : (o p : Option ℕ) → o ≡ p → is_some o ≡ true → (t : Bool) → (t && is_none p) ≡ false
      go None p is some t = absurd (false≢true some)
      go (Some x) None is some t = absurd (cc)
      go (Some x) (Some y) is some true = refl
      go (Some x) (Some y) is some false = refl

  pub labels_end : words (drop at line) ≡ [] → true ≡ is_some (label_items line)
  labels_end end = sym (ap (λ o. is_some (singles_in o)) (items_all line at front f.read end) ∙ ap (λ t. is_some (cond t (Some front) None)) f.singles)

  pub labels_bad : items_of_words (words (drop at line)) ≡ None → false ≡ is_some (label_items line)
  labels_bad bad = sym (ap (λ o. is_some (singles_in o)) (f.read.whole ∙ ap (items_in_front front) bad))

-- ---- the labels of an image
none_before : (names : List (List ℕ)) (xs : List ItemText) (x : ItemText) (ys : List ItemText) → label_held names x ≡ None → labels_in names ((xs ++ x ∷ []) ++ ys) ≡ None
none_before names [] x ys none = ap (λ o. with_held o (labels_in names ys)) none
none_before names (y ∷ xs) x ys none = ap (with_held (label_held names y)) (none_before names xs x ys none) ∙ nothing (label_held names y)
  where
    nothing : (o : Option ℕ) → with_held o None ≡ None
    nothing None = refl
    nothing (Some z) = refl

pub held_parts : (o : Option ℕ) (p : Option (List ℕ)) (labels : List ℕ) → with_held o p ≡ Some labels → (x : ℕ) × (xs : List ℕ) × (o ≡ Some x) × (p ≡ Some xs) × (x ∷ xs ≡ labels)
held_parts None p labels e = absurd (cc)
held_parts (Some x) None labels e = absurd (cc)
held_parts (Some x) (Some xs) labels e = (x, xs, refl, refl, (let same : x ∷ xs ≡ labels = cc in same))

one_held_more : (names : List (List ℕ)) (xs : List ItemText) (x : ItemText) (labels : List ℕ) (label : ℕ) → labels_in names xs ≡ Some labels → label_held names x ≡ Some label
    → labels_in names (xs ++ x ∷ []) ≡ Some (labels ++ label ∷ [])
one_held_more names [] x labels label e is =
    let none : [] ≡ labels = cc in
    ap (λ o. with_held o (Some [])) is ∙ ap (λ (l : List ℕ). Some (l ++ label ∷ [])) none
one_held_more names (y ∷ xs) x labels label e is =
    let (z, zs, first, rest, same) = held_parts (label_held names y) (labels_in names xs) labels e in
    (λ i. with_held (first i) (one_held_more names xs x zs label rest is i)) ∙ ap (λ (l : List ℕ). Some (l ++ label ∷ [])) same

count_held : (names : List (List ℕ)) (items : List ItemText) (labels : List ℕ) → labels_in names items ≡ Some labels → length labels ≡ length items
count_held names [] labels e = let none : [] ≡ labels = cc in sym (ap length none)
count_held names (y ∷ items) labels e =
    let (z, zs, first, rest, same) = held_parts (label_held names y) (labels_in names items) labels e in
    sym (ap length same) ∙ ap suc (count_held names items zs rest)

pub record ImageItems (names : List (List ℕ)) (line : List ℕ) (at : ℕ) (front : List ItemText) (labels : List ℕ) : Type 0 where
  pub read : ReadItems line at front
  pub labels_are : labels_in names front ≡ Some labels

pub nothing_held : (names : List (List ℕ)) (line labels : List ℕ) → labels ≡ [] → ImageItems names line 0 [] labels
nothing_held names line labels none = record { read = nothing_read line; labels_are = ap Some (sym none) }

known_labels : (line : List ℕ) → is_some (label_items line) ≡ true → (items : List ItemText) × (items_of line ≡ Some items) × (label_items line ≡ Some items)
known_labels line some = go (items_of line) refl some
  where
    inner : (items : List ItemText) (t : Bool) → list_all is_single items ≡ t → is_some (cond t (Some items) None) ≡ true → singles_in (Some items) ≡ Some items
    inner items true all is = ap (λ t. cond t (Some items) None) all
    inner items false all is = absurd (false≢true is)

    go : (o : Option (List ItemText)) → items_of line ≡ o → is_some (singles_in o) ≡ true → (items : List ItemText) × (items_of line ≡ Some items) × (label_items line ≡ Some items)
    go None is some = absurd (false≢true some)
    go (Some items) is some = (items, is, ap singles_in is ∙ inner items (list_all is_single items) refl some)

module _ (names : List (List ℕ)) (degree : ℕ) (line : List ℕ) (at : ℕ) (front : List ItemText) (labels : List ℕ) (f : ImageItems names line at front labels) (some : is_some (label_items line) ≡ true) where
  behind_label : (item : Item) (text : ItemText) → NextItem line at item text → (behind : List ItemText) × (label_items line ≡ Some ((front ++ text ∷ []) ++ behind))
  behind_label item text next =
      let (items, is, single) = known_labels line some in
      go items is single (items_of_words (words (drop item.to line))) (one_read line at front f.read item text next).whole
    where
      go : (items : List ItemText) → items_of line ≡ Some items → label_items line ≡ Some items → (rest : Option (List ItemText)) → items_of line ≡ items_in_front (front ++ text ∷ []) rest
          → (behind : List ItemText) × (label_items line ≡ Some ((front ++ text ∷ []) ++ behind))
      go items is single None whole = absurd (cc)
      go items is single (Some behind) whole = (behind, single ∙ sym is ∙ whole)

  image_behind : (item : Item) (text : ItemText) → (next : NextItem line at item text) → option_and_then (image_labels names degree) (label_items line) ≡ image_labels names degree ((front ++ text ∷ []) ++ (behind_label item text next).0)
  image_behind item text next = ap (option_and_then (image_labels names degree)) (behind_label item text next).1

  pub unknown_there : (item : Item) (text : ItemText) → NextItem line at item text → None ≡ label_held names text → None ≡ option_and_then (image_labels names degree) (label_items line)
  unknown_there item text next none =
      sym (image_behind item text next ∙ ap (option_and_then (of_length degree)) (none_before names front text (behind_label item text next).0 (sym none)))

  pub too_many : (item : Item) (text : ItemText) → NextItem line at item text → degree ≤ length labels → None ≡ option_and_then (image_labels names degree) (label_items line)
  too_many item text next full = sym (image_behind item text next ∙ go (labels_in names ((front ++ text ∷ []) ++ (behind_label item text next).0)) refl)
    where
      go : (o : Option (List ℕ)) → labels_in names ((front ++ text ∷ []) ++ (behind_label item text next).0) ≡ o → option_and_then (of_length degree) o ≡ None
      go None e = refl
      go (Some all) e =
          let count : length all ≡ length ((front ++ text ∷ []) ++ (behind_label item text next).0) = count_held names ((front ++ text ∷ []) ++ (behind_label item text next).0) all e in
          let here : length labels ≡ length front = count_held names front labels f.labels_are in
          let longer : degree < length all = omega (arith, count, here, length-append (front ++ text ∷ []) (behind_label item text next).0, length-append front (text ∷ [])) in
          let apart : eqb (length all) degree ≡ false = grind (arith, nat_tests) in
          ap (λ t. cond t (Some all) None) apart

  pub one_image_more : (item : Item) (text : ItemText) (label : ℕ) (new : List ℕ) → NextItem line at item text → Some label ≡ label_held names text → new ≡ labels ++ label ∷ [] → ImageItems names line item.to (front ++ text ∷ []) new
  one_image_more item text label new next is more = record {
    read = one_read line at front f.read item text next;
    labels_are = one_held_more names front text labels label f.labels_are (sym is) ∙ ap Some (sym more);
  }

  image_all : words (drop at line) ≡ [] → option_and_then (image_labels names degree) (label_items line) ≡ cond (eqb (length labels) degree) (Some labels) None
  image_all end =
      let (items, is, single) = known_labels line some in
      let same : label_items line ≡ Some front = single ∙ sym is ∙ items_all line at front f.read end in
      ap (option_and_then (image_labels names degree)) same ∙ ap (option_and_then (of_length degree)) f.labels_are

  pub image_ends : words (drop at line) ≡ [] → length labels ≡ degree → Some labels ≡ option_and_then (image_labels names degree) (label_items line)
  image_ends end size = sym (image_all end ∙ ap (λ t. cond t (Some labels) None) (eq-eqb (length labels) degree size))

  pub image_short : words (drop at line) ≡ [] → (length labels ≡ degree → ⊥) → None ≡ option_and_then (image_labels names degree) (label_items line)
  image_short end size =
      let apart : eqb (length labels) degree ≡ false = grind (arith, nat_tests) in
      sym (image_all end ∙ ap (λ t. cond t (Some labels) None) apart)

  pub no_bad_label : items_of_words (words (drop at line)) ≡ None → ⊥
  no_bad_label bad = false≢true (sym (ap (λ o. is_some (singles_in o)) (f.read.whole ∙ ap (items_in_front front) bad)) ∙ some)
