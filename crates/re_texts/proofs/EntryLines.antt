-- The lines of entries and of pairs are read as these.
use Rattle.std.proofs.lemmas.List.{append-nil}
use Rattle.std.proofs.Common.{codes, flat_map, Result, Ok, Err, ◌≡◌, ℕ, ◌<◌, ◌≤◌, arith, Bool, true, false, cond, ◌&&◌, eqb, eq-eqb, leb, map, List, [], ◌∷◌, ◌++◌, length, refl, sym, ap, ◌∙◌, subst, append_assoc, Some, None}
use Rattle.std.specs.List.{AllByRecursion, list_all}
use Rattle.std.proofs.lemmas.Bool.Decides.{nat_tests}
use Rattle.std.specs.Option.{option_and_then}
use Rattle.std.specs.Prelude.{OnOk}
use Rattle.re_texts.proofs.BlocksWritten.{have_names}
use Rattle.re_texts.proofs.ConfigLines.{IsNamed, name_at}
use Rattle.re_cert.specs.Entries.{both, entry_with, is_single, labels_in, of_length, singles_in, with_held}
use Rattle.re_problem.specs.Pairs.{label_held, pair_in, pair_on}
use Rattle.re_labels.specs.PortLabels.{port_labels}
use Rattle.re_texts.proofs.SpacedWords.{IsWord, spaced_words}
use Rattle.re_texts.proofs.LineWords.{spaced_read}
use Rattle.re_texts.proofs.SetItems.{label_read, label_word, names_at, set_held, set_item, set_read, set_word}
use Rattle.re_texts.specs.CertificateLines.{EntryLineLaw, ImageLineLaw, IsEntryRead, IsRead, PairLineLaw, image_text}
use Rattle.re_problem.specs.Items.{ItemText, item_of, items_of_words, with_item}
use Rattle.re_labels.specs.Names.{IsNames}
use Rattle.re_labels.specs.Sets.{IsLabelSet, first_of}
use Rattle.re_texts.specs.SetTexts.{named_text, set_text}
use Rattle.re_problem.specs.CanonicalTexts.{spaced}
use Rattle.re_problem.specs.Steps.{SetEntry}

-- ---- two words
-- an item without power
abbrev item : List (List ℕ) → Bool → ItemText
item names group = record { names = names; group = group; power = None }

-- the line of two words
abbrev two : List ℕ → List ℕ → List ℕ
two x y = (x ++ 32 ∷ []) ++ y

two_spaced : (x y : List ℕ) → two x y ≡ spaced (x ∷ y ∷ [])
two_spaced x y = append_assoc x (32 ∷ []) y ∙ ap (λ t. x ++ 32 ∷ t) (sym (append-nil y))

two_read : (x y : List ℕ) → IsWord x → IsWord y → IsRead (two x y)
two_read x y left right = subst IsRead (sym (two_spaced x y)) (spaced_read x (y ∷ []) (left, (right, tt)))

two_items : (x y : List ℕ) (xs ys : List (List ℕ)) (g h : Bool) → IsWord x → IsWord y → item_of x ≡ Some (item xs g) → item_of y ≡ Some (item ys h)
    → pair_on (two x y) ≡ Some (record { left = item xs g; right = item ys h })
two_items x y xs ys g h left right x_is y_is =
    ap pair_on (two_spaced x y)
    ∙ ap (λ texts. pair_in (items_of_words texts)) (spaced_words (x ∷ y ∷ []) (left, (right, tt)))
    ∙ (λ i. pair_in (with_item (x_is i) (with_item (y_is i) (Some []))))

-- ---- labels
has_name : (names : List (List ℕ)) → IsNames names → (label : ℕ) → label < length names → IsNamed names label
has_name names is label below = (have_names names is 2 (omega arith) (omega arith) (label ∷ []) (below, tt)).0

label_back : (names : List (List ℕ)) → IsNames names → (label : ℕ) → label < length names → label_held names (item (name_at names label ∷ []) false) ≡ Some label
label_back names is label below = ap (option_and_then first_of) (set_held names is.ascends (label ∷ []) (tt, (below, tt)))

-- ---- entries
module _ (before next : List (List ℕ)) (entry : SetEntry) (named : IsNames before) (next_named : IsNames next) (set : IsLabelSet (length before) entry.set) (below : entry.label < length next) where
  abbrev set_part : ItemText
  set_part = set_item before entry.set None

  abbrev label_part : ItemText
  label_part = item (name_at next entry.label ∷ []) false

  set_named : AllByRecursion (IsNamed before) entry.set
  set_named = have_names before named 2 (omega arith) (omega arith) entry.set set.1

  label_named : IsNamed next entry.label
  label_named = has_name next next_named entry.label below

  entry_is : IsEntryRead before next entry set_part label_part
  entry_is = record {
    single = refl;
    entry_is = λ i. entry_with (set_held before named.ascends entry.set set i) (label_back next next_named entry.label below i);
  }

  lower_read : IsRead (two (set_text before entry.set) (named_text next entry.label))
  lower_read = two_read (set_text before entry.set) (named_text next entry.label) (set_word before entry.set set_named) (label_word next entry.label label_named)

  upper_read : IsRead (two (named_text next entry.label) (set_text before entry.set))
  upper_read = two_read (named_text next entry.label) (set_text before entry.set) (label_word next entry.label label_named) (set_word before entry.set set_named)

  lower_pair : pair_on (two (set_text before entry.set) (named_text next entry.label)) ≡ Some (record { left = set_part; right = label_part })
  lower_pair =
      two_items (set_text before entry.set) (named_text next entry.label) (names_at before entry.set) (name_at next entry.label ∷ []) true false
      (set_word before entry.set set_named) (label_word next entry.label label_named) (set_read before entry.set set_named) (label_read next entry.label label_named)

  upper_pair : pair_on (two (named_text next entry.label) (set_text before entry.set)) ≡ Some (record { left = label_part; right = set_part })
  upper_pair =
      two_items (named_text next entry.label) (set_text before entry.set) (name_at next entry.label ∷ []) (names_at before entry.set) false true
      (label_word next entry.label label_named) (set_word before entry.set set_named) (label_read next entry.label label_named) (set_read before entry.set set_named)

pub entry_line_law : EntryLineLaw
entry_line_law true before next entry named next_named set below =
    (lower_read before next entry named next_named set below, (record { left = set_item before entry.set None; right = item (name_at next entry.label ∷ []) false }, lower_pair before next entry named next_named set below, entry_is before next entry named next_named set below))
entry_line_law false before next entry named next_named set below =
    (upper_read before next entry named next_named set below, (record { left = item (name_at next entry.label ∷ []) false; right = set_item before entry.set None }, upper_pair before next entry named next_named set below, entry_is before next entry named next_named set below))

-- ---- pairs
pub pair_line_law : PairLineLaw
pair_line_law last target labels named target_named from_below to_below =
    let left = has_name last named labels.0 from_below in
    let right = has_name target target_named labels.1 to_below in (
      two_read (named_text last labels.0) (named_text target labels.1) (label_word last labels.0 left) (label_word target labels.1 right),
      (
        record { left = item (name_at last labels.0 ∷ []) false; right = item (name_at target labels.1 ∷ []) false },
        two_items (named_text last labels.0) (named_text target labels.1) (name_at last labels.0 ∷ []) (name_at target labels.1 ∷ []) false false
            (label_word last labels.0 left) (label_word target labels.1 right) (label_read last labels.0 left) (label_read target labels.1 right),
        refl,
        refl,
        λ i. both (label_back last named labels.0 from_below i) (label_back target target_named labels.1 to_below i),
      ),
    )

-- ---- images
module _ (names : List (List ℕ)) (is : IsNames names) where
  abbrev label_item : ℕ → ItemText
  label_item label = item (name_at names label ∷ []) false

  words_are : (image : List ℕ) → AllByRecursion (λ label. label < length names) image → AllByRecursion IsWord (map (named_text names) image)
  words_are [] below = tt
  words_are (label ∷ image) below = (label_word names label (has_name names is label below.0), words_are image below.1)

  items_are : (image : List ℕ) → AllByRecursion (λ label. label < length names) image → items_of_words (map (named_text names) image) ≡ Some (map label_item image)
  items_are [] below = refl
  items_are (label ∷ image) below = λ i. with_item (label_read names label (has_name names is label below.0) i) (items_are image below.1 i)

  singles : (image : List ℕ) → list_all is_single (map label_item image) ≡ true
  singles [] = refl
  singles (label ∷ image) = singles image

  labels_back : (image : List ℕ) → AllByRecursion (λ label. label < length names) image → labels_in names (map label_item image) ≡ Some image
  labels_back [] below = refl
  labels_back (label ∷ image) below = λ i. with_held (label_back names is label below.0 i) (labels_back image below.1 i)

pub image_line_law : ImageLineLaw
image_line_law before next [] is least most count below = absurd (omega (arith, count))
image_line_law before next (label ∷ image) is least most count below =
    let names = next.names in
    let texts : List (List ℕ) = map (named_text names) (label ∷ image) in
    let words = words_are names is (label ∷ image) below in
    let items : List ItemText = map (λ label. item (name_at names label ∷ []) false) (label ∷ image) in
    let size : eqb (length (label ∷ image)) before.passive.degree ≡ true = eq-eqb (length (label ∷ image)) before.passive.degree count in
    let few : (leb 2 (length (label ∷ image)) && leb (length (label ∷ image)) 6) ≡ true = (λ i. low_of (length (label ∷ image)) (omega (arith, count)) i && high_of (length (label ∷ image)) (omega (arith, count)) i) in (
      spaced_read (named_text names label) (map (named_text names) image) words,
      (
        items,
        ap (λ w. singles_in (items_of_words w)) (spaced_words texts words) ∙ ap singles_in (items_are names is (label ∷ image) below) ∙ ap (λ t. cond t (Some items) None) (singles names is (label ∷ image)),
        ap (λ o. option_and_then port_labels (option_and_then (of_length before.passive.degree) o)) (labels_back names is (label ∷ image) below)
            ∙ ap (λ t. option_and_then port_labels (cond t (Some (label ∷ image)) None)) size
            ∙ ap (λ t. cond t (Some (label ∷ image)) None) few,
      ),
    )
  where
    low_of : (n : ℕ) → 2 ≤ n → leb 2 n ≡ true
    low_of n l = grind (arith, nat_tests)

    high_of : (n : ℕ) → n ≤ 6 → leb n 6 ≡ true
    high_of n l = grind (arith, nat_tests)

-- ---- printing
others_spaced : (names : List (List ℕ)) (labels : List ℕ) → flat_map (λ label. codes " " ++ named_text names label) labels ≡ flat_map (λ next. codes " " ++ next) (map (named_text names) labels)
others_spaced names [] = refl
others_spaced names (label ∷ labels) = ap (λ t. (codes " " ++ named_text names label) ++ t) (others_spaced names labels)

-- an image is printed as its first label and the others behind spaces
pub image_printed : (names : List (List ℕ)) (labels : List ℕ) (first : ℕ) (others : List ℕ) → first ∷ others ≡ labels
    → named_text names first ++ flat_map (λ label. codes " " ++ named_text names label) others ≡ image_text names labels
image_printed names labels first others parts = ap (λ t. named_text names first ++ t) (others_spaced names others) ∙ ap (image_text names) parts

pub on_ok : {X E P Q : Type 0} (result : Result X E) → (P → Q) → OnOk result P → OnOk result Q
on_ok (Ok x) to h = to h
on_ok (Err e) to h = tt
