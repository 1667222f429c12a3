-- The text of a set writes one item, a group of its labels, and its names give the set back.
use Rattle.std.proofs.lemmas.List.{append-nil}
use Rattle.std.proofs.Common.{◌≡◌, ℕ, ◌≤◌, ◌<◌, ◌-◌, Bool, true, false, cond, ◌||◌, eqb, List, [], ◌∷◌, ◌++◌, length, length-append, take, get_or, map, flat_map, refl, sym, ap, ◌∙◌, arith, append_assoc, decimal, Option, Some, None}
use Rattle.std.specs.Char.{is_ascii_alphanumeric}
use Rattle.std.specs.List.{AllByRecursion, list_all, list_any, onto_first}
use Rattle.std.specs.Option.{option_and_then}
use Rattle.std.proofs.lemmas.Bool.{false≢true, lt-ltb}
use Rattle.std.proofs.lemmas.Bool.Decides.{nat_tests}
use Rattle.std.proofs.lemmas.List.Elements.{Contains-get_or}
use Rattle.re_texts.proofs.ConfigLines.{IsNamed, name_at}
use Rattle.re_texts.proofs.RunItems.{all_both, all_weaker, is_run_byte, power_part, run_bytes, run_read, some_text, name_bytes, many, power_read, power_bytes}
use Rattle.re_texts.proofs.SpacedWords.{IsWord, bracket_ends, inside_append, inside_behind, is_base_byte, is_word_byte, run_outside, run_to_word, run_word}
use Rattle.re_labels.proofs.Sorting.{take_front}
use Rattle.re_labels.specs.Configs.{support_of}
use Rattle.re_problem.proofs.HeldLabels.{is_held}
use Rattle.re_problem.proofs.ItemShapes.{carets, power_behind}
use Rattle.re_problem.specs.Bytes.{is_blank}
use Rattle.re_problem.specs.Items.{ItemText, group_item, group_with, item_of, item_of_parts, item_with, labels_from, labels_of, with_name}
use Rattle.re_problem.specs.Labels.{are_held, labels_held}
use Rattle.re_labels.proofs.Searching.{place_of-at}
use Rattle.re_labels.proofs.Tests.{and-true, true-and}
use Rattle.re_labels.specs.Lists.{IsBefore, IsRising, place_of, same_list}
use Rattle.re_labels.specs.Names.{is_name, is_name_byte}
use Rattle.re_labels.specs.Sets.{IsLabelSet, with_label}
use Rattle.re_texts.specs.SetTexts.{named_text, set_text}
use Rattle.re_problem.specs.CanonicalTexts.{is_bare, label_text, power_text}
use Rattle.re_problem.specs.ProblemTexts.{labels_named}

-- ---- bytes
name_to_base : (b : ℕ) → is_name_byte b ≡ true → is_base_byte b ≡ true
name_to_base b h = ap (λ t. (t || eqb b 40 || eqb b 41) || eqb b 91 || eqb b 93) h

base_to_word : (b : ℕ) → is_base_byte b ≡ true → is_word_byte b ≡ true
base_to_word b h = ap (λ t. t || eqb b 94) h

no_caret : (b : ℕ) → is_base_byte b ≡ true → eqb b 94 ≡ false
no_caret b h = grind (arith, nat_tests)

-- the text of a label, where its name is bare and where it isn't
abbrev written_label : Bool → List ℕ → List ℕ
written_label bare name = cond bare name (40 ∷ (name ++ 41 ∷ []))

label_bytes : (name : List ℕ) → is_name name ≡ true → list_all is_base_byte (label_text name) ≡ true
label_bytes name named = go (is_bare name)
  where
    inside : list_all is_base_byte name ≡ true
    inside = all_weaker is_name_byte is_base_byte name_to_base name (name_bytes name named)

    go : (bare : Bool) → list_all is_base_byte (written_label bare name) ≡ true
    go true = inside
    go false = all_both is_base_byte name (41 ∷ []) inside refl

-- ---- labels, one after another
-- a name in parentheses
in_parentheses : (front name rest : List ℕ) → list_all is_name_byte name ≡ true
    → labels_from (Some front) (name ++ 41 ∷ rest) ≡ cond (is_name (front ++ name)) (with_name (front ++ name) (labels_from None rest)) None
in_parentheses front [] rest all = ap (λ n. cond (is_name n) (with_name n (labels_from None rest)) None) (sym (append-nil front))
in_parentheses front (b ∷ name) rest all =
    let both = and-true (is_name_byte b) (list_all is_name_byte name) all in
    ap (λ t. cond t (cond (is_name front) (with_name front (labels_from None (name ++ 41 ∷ rest))) None) (labels_from (Some (front ++ b ∷ [])) (name ++ 41 ∷ rest))) (no_end b both.0)
    ∙ in_parentheses (front ++ b ∷ []) name rest both.1
    ∙ ap (λ n. cond (is_name n) (with_name n (labels_from None rest)) None) (append_assoc front (b ∷ []) name)
  where
    no_end : (b : ℕ) → is_name_byte b ≡ true → eqb b 41 ≡ false
    no_end b h = grind (arith, nat_tests)

-- a label in front of other ones
label_in_front : (name rest : List ℕ) → is_name name ≡ true → labels_from None (label_text name ++ rest) ≡ with_name name (labels_from None rest)
label_in_front name rest named = go (is_bare name) refl
  where
    single : (b : ℕ) → is_ascii_alphanumeric b ≡ true → labels_from None (b ∷ rest) ≡ with_name (b ∷ []) (labels_from None rest)
    single b label =
        let no_parenthesis : eqb b 40 ≡ false = grind (arith, nat_tests) in
        let no_blank : is_blank b ≡ false = grind (arith, nat_tests) in
        rw (no_blank, no_parenthesis, label) refl

    one : (name : List ℕ) → is_bare name ≡ true → labels_from None (name ++ rest) ≡ with_name name (labels_from None rest)
    one [] bare = absurd (false≢true bare)
    one (b ∷ []) bare = single b (and-true (is_ascii_alphanumeric b) true (and-true true (list_all is_ascii_alphanumeric (b ∷ [])) bare).1).0
    one (b ∷ c ∷ name) bare =
        let long : eqb (length (b ∷ c ∷ name)) 1 ≡ false = grind (arith, nat_tests) in
        absurd (false≢true (sym long ∙ (and-true (eqb (length (b ∷ c ∷ name)) 1) (list_all is_ascii_alphanumeric (b ∷ c ∷ name)) bare).0))

    enclosed : labels_from (Some []) ((name ++ 41 ∷ []) ++ rest) ≡ with_name name (labels_from None rest)
    enclosed =
        ap (labels_from (Some [])) (append_assoc name (41 ∷ []) rest) ∙ in_parentheses [] name rest (name_bytes name named)
        ∙ ap (λ t. cond t (with_name name (labels_from None rest)) None) named

    go : (bare : Bool) → is_bare name ≡ bare → labels_from None (written_label bare name ++ rest) ≡ with_name name (labels_from None rest)
    go true is = one name is
    go false is = enclosed

-- ---- powers
abbrev written_power : Bool → ℕ → List ℕ
written_power one count = cond one [] (94 ∷ decimal count)

-- ---- the cut at `^`
no_cut : (text : List ℕ) → list_all is_base_byte text ≡ true → carets text ≡ text ∷ []
no_cut [] all = refl
no_cut (b ∷ text) all =
    let both = and-true (is_base_byte b) (list_all is_base_byte text) all in
    ap (λ t. cond t ([] ∷ carets text) (onto_first b (carets text))) (no_caret b both.0) ∙ ap (onto_first b) (no_cut text both.1)

one_cut : (text behind : List ℕ) → list_all is_base_byte text ≡ true → carets (text ++ 94 ∷ behind) ≡ text ∷ carets behind
one_cut [] behind all = refl
one_cut (b ∷ text) behind all =
    let both = and-true (is_base_byte b) (list_all is_base_byte text) all in
    ap (λ t. cond t ([] ∷ carets (text ++ 94 ∷ behind)) (onto_first b (carets (text ++ 94 ∷ behind)))) (no_caret b both.0) ∙ ap (onto_first b) (one_cut text behind both.1)

-- ---- groups
-- what stands between the brackets
group_read : (power : Option ℕ) (inner : List ℕ) → group_with power (inner ++ 93 ∷ []) ≡ group_item power (labels_of inner)
group_read power inner =
    ap (λ n. cond (eqb (get_or (inner ++ 93 ∷ []) n 0) 93) (group_item power (labels_of (take n (inner ++ 93 ∷ [])))) None) size
    ∙ ap (λ b. cond (eqb b 93) (group_item power (labels_of (take (length inner) (inner ++ 93 ∷ [])))) None) (last inner)
    ∙ ap (λ l. group_item power (labels_of l)) (take_front inner (93 ∷ []))
  where
    size : length (inner ++ 93 ∷ []) - 1 ≡ length inner
    size = omega (arith, length-append inner (93 ∷ []))

    last : (xs : List ℕ) → get_or (xs ++ 93 ∷ []) (length xs) 0 ≡ 93
    last [] = refl
    last (x ∷ xs) = last xs

module _ (names : List (List ℕ)) where
  -- the labels of a set, one after another
  abbrev pub inner_text : List ℕ → List ℕ
  inner_text set = flat_map (named_text names) set

  -- the names of the labels of a set
  abbrev pub names_at : List ℕ → List (List ℕ)
  names_at set = map (name_at names) set

  inner_labels : (set : List ℕ) → AllByRecursion (IsNamed names) set → labels_of (inner_text set) ≡ Some (names_at set)
  inner_labels [] named = refl
  inner_labels (x ∷ set) named = label_in_front (name_at names x) (inner_text set) named.0 ∙ ap (with_name (name_at names x)) (inner_labels set named.1)

  inner_bytes : (set : List ℕ) → AllByRecursion (IsNamed names) set → list_all is_base_byte (inner_text set) ≡ true
  inner_bytes [] named = refl
  inner_bytes (x ∷ set) named = all_both is_base_byte (named_text names x) (inner_text set) (label_bytes (name_at names x) named.0) (inner_bytes set named.1)

  set_bytes : (set : List ℕ) → AllByRecursion (IsNamed names) set → list_all is_base_byte (set_text names set) ≡ true
  set_bytes set named = all_both is_base_byte (inner_text set) (93 ∷ []) (inner_bytes set named) refl

  -- the group of a set
  abbrev pub set_item : List ℕ → Option ℕ → ItemText
  set_item set power = record { names = names_at set; group = true; power = power }

  set_base : (power : Option ℕ) (set : List ℕ) → AllByRecursion (IsNamed names) set → item_with power (set_text names set) ≡ Some (set_item set power)
  set_base power set named = group_read power (inner_text set) ∙ ap (group_item power) (inner_labels set named)

  -- a set is read as the group of its labels
  pub set_read : (set : List ℕ) → AllByRecursion (IsNamed names) set → item_of (set_text names set) ≡ Some (set_item set None)
  set_read set named = ap item_of_parts (no_cut (set_text names set) (set_bytes set named)) ∙ set_base None set named

  -- and with a power behind it
  pub set_run_read : (set : List ℕ) (count : ℕ) → AllByRecursion (IsNamed names) set → 1 ≤ count → count ≤ 6
      → item_of (set_text names set ++ power_text count) ≡ Some (set_item set (power_part count))
  set_run_read set count named some few = go (eqb count 1) refl
    where
      go : (one : Bool) → eqb count 1 ≡ one → item_of (set_text names set ++ written_power one count) ≡ Some (set_item set (cond one None (Some count)))
      go true test = ap item_of (append-nil (set_text names set)) ∙ set_read set named
      go false test =
          ap item_of_parts (one_cut (set_text names set) (decimal count) (set_bytes set named)) ∙ power_behind (set_text names set) (decimal count)
          ∙ ap (option_and_then (λ n. item_with (Some n) (set_text names set))) (power_read count (many count some test) few)
          ∙ set_base (Some count) set named

  pub set_word : (set : List ℕ) → AllByRecursion (IsNamed names) set → IsWord (set_text names set)
  set_word set named = record {
    bytes = all_weaker is_base_byte is_word_byte base_to_word (set_text names set) (set_bytes set named);
    closed = bracket_ends true (inner_text set);
    filled = (91, inner_text set ++ 93 ∷ [], refl);
  }

  pub set_run_word : (set : List ℕ) (count : ℕ) → AllByRecursion (IsNamed names) set → 1 ≤ count → count ≤ 6 → IsWord (set_text names set ++ power_text count)
  set_run_word set count named some few =
      let word = set_word set named in
      let power = power_bytes count some few in
      record {
        bytes = all_both is_word_byte (set_text names set) (power_text count) word.bytes (all_weaker is_run_byte is_word_byte run_to_word (power_text count) power);
        closed = inside_append false (set_text names set) (power_text count) ∙ ap (λ t. inside_behind t (power_text count)) word.closed ∙ run_outside (power_text count) power;
        filled = (91, (inner_text set ++ 93 ∷ []) ++ power_text count, refl);
      }

  -- a label alone
  pub label_read : (label : ℕ) → IsNamed names label → item_of (named_text names label) ≡ Some (record { names = name_at names label ∷ []; group = false; power = None })
  label_read label named = ap item_of (sym (append-nil (named_text names label))) ∙ run_read (name_at names label) 1 named (omega arith) (omega arith)

  pub label_word : (label : ℕ) → IsNamed names label → IsWord (named_text names label)
  label_word label named =
      let text = some_text (name_at names label) [] named in
      let plain : list_all is_run_byte (named_text names label) ≡ true = ap (list_all is_run_byte) (sym (append-nil (named_text names label))) ∙ run_bytes (name_at names label) 1 named (omega arith) (omega arith) in
      run_word (named_text names label) plain (text.0, text.1, sym (append-nil (named_text names label)) ∙ text.2)

  -- ---- the set of its names
  pub names_held : (set : List ℕ) → AllByRecursion (λ x. x < length names) set → are_held names (names_at set) ≡ true
  names_held [] below = refl
  names_held (x ∷ set) below =
      true-and (list_any (same_list (name_at names x)) names) (are_held names (names_at set)) (is_held names (name_at names x) (Contains-get_or names x [] below.0)) (names_held set below.1)

  module _ (rising : IsRising IsBefore names) where
    places_again : (set : List ℕ) → AllByRecursion (λ x. x < length names) set → map (place_of names) (names_at set) ≡ set
    places_again [] below = refl
    places_again (x ∷ set) below = λ i. place_of-at names x (name_at names x) rising below.0 refl i ∷ places_again set below.1 i

    pub set_again : (set : List ℕ) → IsLabelSet (length names) set → labels_named names (names_at set) ≡ set
    set_again set is = ap support_of (places_again set is.1) ∙ support_again set is.0
      where
        onto : (x : ℕ) (set : List ℕ) → IsRising (λ x y. x < y) (x ∷ set) → with_label set x ≡ x ∷ set
        onto x [] rises = refl
        onto x (y ∷ set) rises = ap (λ t. cond t (x ∷ y ∷ set) (cond (eqb x y) (y ∷ set) (y ∷ with_label set x))) (lt-ltb x y rises.0)

        tail : (x : ℕ) (set : List ℕ) → IsRising (λ x y. x < y) (x ∷ set) → IsRising (λ x y. x < y) set
        tail x [] rises = tt
        tail x (y ∷ set) rises = rises.1

        support_again : (set : List ℕ) → IsRising (λ x y. x < y) set → support_of set ≡ set
        support_again [] rises = refl
        support_again (x ∷ set) rises = ap (λ s. with_label s x) (support_again set (tail x set rises)) ∙ onto x set rises

    pub set_held : (set : List ℕ) → IsLabelSet (length names) set → labels_held names (names_at set) ≡ Some set
    set_held set is =
        ap (λ t. cond t (Some (labels_named names (names_at set))) None) (names_held set is.1) ∙ ap Some (set_again set is)
