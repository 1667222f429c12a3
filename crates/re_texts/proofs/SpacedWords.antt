-- The words of texts of labels and groups with one space between.
use Rattle.std.proofs.lemmas.List.{append-nil}
use Rattle.std.proofs.Common.{◌≡◌, ℕ, suc, Bool, true, false, cond, not, ◌&&◌, ◌||◌, ◌+◌, eqb, leb, List, [], ◌∷◌, ◌++◌, length, filter, flat_map, refl, sym, ap, ◌∙◌, arith, Some, None}
use Rattle.std.specs.List.{AllByRecursion, list_all, onto_first, position_from}
use Rattle.std.proofs.lemmas.Iterator.Adapters.{position_from-zero}
use Rattle.std.proofs.lemmas.Bool.Decides.{nat_tests}
use Rattle.re_texts.proofs.RunItems.{all_both, all_weaker, is_label_byte, is_run_byte, run_byte}
use Rattle.re_problem.specs.Bytes.{bad_byte, is_allowed, is_blank, is_empty_line}
use Rattle.re_problem.specs.Items.{degree_word, empty_degree, is_inside, pieces, power_of, words}
use Rattle.re_labels.proofs.Tests.{and-true}
use Rattle.re_problem.proofs.EndedLines.{NoFeed}
use Rattle.re_problem.specs.CanonicalTexts.{spaced}

-- ---- bytes
-- a byte of a word without its power: of a label, or a bracket
abbrev pub is_base_byte : ℕ → Bool
is_base_byte b = is_label_byte b || eqb b 91 || eqb b 93

-- a byte of a word
abbrev pub is_word_byte : ℕ → Bool
is_word_byte b = is_base_byte b || eqb b 94

-- what such a byte isn't, and that a line may have it
pub record WordByte (b : ℕ) : Type 0 where
  pub blank : is_blank b ≡ false
  pub feed : eqb b 10 ≡ false
  pub mark : eqb b 61 ≡ false
  pub percent : eqb b 37 ≡ false
  pub allowed : is_allowed b ≡ true

pub word_byte : (b : ℕ) → is_word_byte b ≡ true → WordByte b
word_byte b h = record {
  blank = grind (arith, nat_tests);
  feed = grind (arith, nat_tests);
  mark = grind (arith, nat_tests);
  percent = grind (arith, nat_tests);
  allowed = grind (arith, nat_tests);
}

pub run_to_word : (b : ℕ) → is_run_byte b ≡ true → is_word_byte b ≡ true
run_to_word b h = grind (arith, nat_tests)

-- ---- brackets
-- whether what stands behind the text is inside brackets
abbrev pub inside_behind : Bool → List ℕ → Bool
inside_behind inside [] = inside
inside_behind inside (b ∷ text) = inside_behind (is_inside inside b) text

pub inside_append : (inside : Bool) (xs ys : List ℕ) → inside_behind inside (xs ++ ys) ≡ inside_behind (inside_behind inside xs) ys
inside_append inside [] ys = refl
inside_append inside (b ∷ xs) ys = inside_append (is_inside inside b) xs ys

pub bracket_ends : (inside : Bool) (text : List ℕ) → inside_behind inside (text ++ 93 ∷ []) ≡ false
bracket_ends inside [] = refl
bracket_ends inside (b ∷ text) = bracket_ends (is_inside inside b) text

outside : (b : ℕ) → eqb b 91 ≡ false → is_inside false b ≡ false
outside b apart = ap (λ t. cond t true (cond (eqb b 93) false false)) apart ∙ same (eqb b 93)
  where
    same : (t : Bool) → cond t false false ≡ false
    same true = refl
    same false = refl

-- a text without brackets leaves none open
pub run_outside : (text : List ℕ) → list_all is_run_byte text ≡ true → inside_behind false text ≡ false
run_outside [] all = refl
run_outside (b ∷ text) all =
    let both = and-true (is_run_byte b) (list_all is_run_byte text) all in
    ap (λ t. inside_behind t text) (outside b (run_byte b both.0).bracket) ∙ run_outside text both.1

-- ---- words
-- a word: bytes of words, at least one, and no open bracket behind them
pub record IsWord (text : List ℕ) : Type 0 where
  pub bytes : list_all is_word_byte text ≡ true
  pub closed : inside_behind false text ≡ false
  pub filled : (b : ℕ) × (rest : List ℕ) × (text ≡ b ∷ rest)

-- a text of bytes of runs, at least one, is a word
pub run_word : (text : List ℕ) → list_all is_run_byte text ≡ true → (b : ℕ) × (rest : List ℕ) × (text ≡ b ∷ rest) → IsWord text
run_word text all filled = record { bytes = all_weaker is_run_byte is_word_byte run_to_word text all; closed = run_outside text all; filled = filled }

-- what stands in front of a cut
in_first_piece : (inside : Bool) (text rest part : List ℕ) (parts : List (List ℕ)) → list_all is_word_byte text ≡ true
    → pieces (inside_behind inside text) rest ≡ part ∷ parts → pieces inside (text ++ rest) ≡ (text ++ part) ∷ parts
in_first_piece inside [] rest part parts all is = is
in_first_piece inside (b ∷ text) rest part parts all is =
    let both = and-true (is_word_byte b) (list_all is_word_byte text) all in
    ap (λ t. cond (t && not inside) ([] ∷ pieces false (text ++ rest)) (onto_first b (pieces (is_inside inside b) (text ++ rest)))) (word_byte b both.0).blank
    ∙ ap (onto_first b) (in_first_piece (is_inside inside b) text rest part parts both.1 is)

spaced_pieces : (text : List ℕ) (texts : List (List ℕ)) → AllByRecursion IsWord (text ∷ texts) → pieces false (spaced (text ∷ texts)) ≡ text ∷ texts
spaced_pieces text [] all = in_first_piece false text [] [] [] all.0.bytes (ap (λ t. pieces t []) all.0.closed) ∙ (λ i. append-nil text i ∷ [])
spaced_pieces text (next ∷ texts) all =
    in_first_piece false text (32 ∷ spaced (next ∷ texts)) [] (next ∷ texts) all.0.bytes
    (ap (λ t. pieces t (32 ∷ spaced (next ∷ texts))) all.0.closed ∙ ap (λ p. [] ∷ p) (spaced_pieces next texts all.1))
    ∙ (λ i. append-nil text i ∷ next ∷ texts)

long_words : (texts : List (List ℕ)) → AllByRecursion IsWord texts → filter (λ word. leb 1 (length word)) texts ≡ texts
long_words [] all = refl
long_words (text ∷ texts) all =
    let first = all.0.filled in
    ap (λ t. cond t (text ∷ filter (λ word. leb 1 (length word)) texts) (filter (λ word. leb 1 (length word)) texts)) (ap (λ w. leb 1 (length w)) first.2 ∙ is_long (length first.1))
    ∙ ap (λ w. text ∷ w) (long_words texts all.1)
  where
    is_long : (n : ℕ) → leb 1 (suc n) ≡ true
    is_long n = grind (arith, nat_tests)

-- the words of spaced words are the words
pub spaced_words : (texts : List (List ℕ)) → AllByRecursion IsWord texts → words (spaced texts) ≡ texts
spaced_words [] all = refl
spaced_words (text ∷ texts) all = ap (filter (λ word. leb 1 (length word))) (spaced_pieces text texts all) ∙ long_words (text ∷ texts) all

-- ---- the bytes of spaced words
-- a byte of spaced words
abbrev is_spaced_byte : ℕ → Bool
is_spaced_byte b = is_word_byte b || eqb b 32

spaced_byte : (b : ℕ) → is_spaced_byte b ≡ true → (is_allowed b ≡ true) × (eqb b 10 ≡ false)
spaced_byte b h = (grind (arith, nat_tests), grind (arith, nat_tests))

word_to_spaced : (text : List ℕ) → list_all is_word_byte text ≡ true → list_all is_spaced_byte text ≡ true
word_to_spaced = all_weaker is_word_byte is_spaced_byte (λ b h. ap (λ t. t || eqb b 32) h)

spaced_bytes : (texts : List (List ℕ)) → AllByRecursion IsWord texts → list_all is_spaced_byte (spaced texts) ≡ true
spaced_bytes [] all = refl
spaced_bytes (text ∷ texts) all = all_both is_spaced_byte text (flat_map (λ next. 32 ∷ next) texts) (word_to_spaced text all.0.bytes) (behind texts all.1)
  where
    behind : (texts : List (List ℕ)) → AllByRecursion IsWord texts → list_all is_spaced_byte (flat_map (λ next. 32 ∷ next) texts) ≡ true
    behind [] all = refl
    behind (next ∷ texts) all = all_both is_spaced_byte next (flat_map (λ next. 32 ∷ next) texts) (word_to_spaced next all.0.bytes) (behind texts all.1)

no_bad_from : (text : List ℕ) (i : ℕ) → list_all is_spaced_byte text ≡ true → position_from (λ b. not (is_allowed b)) i text ≡ None
no_bad_from [] i all = refl
no_bad_from (b ∷ text) i all =
    let both = and-true (is_spaced_byte b) (list_all is_spaced_byte text) all in
    ap (λ t. cond (not t) (Some i) (position_from (λ b. not (is_allowed b)) (i + 1) text)) (spaced_byte b both.0).0 ∙ no_bad_from text (i + 1) both.1

pub spaced_allowed : (texts : List (List ℕ)) → AllByRecursion IsWord texts → bad_byte (spaced texts) ≡ None
spaced_allowed texts all = position_from-zero (λ b. not (is_allowed b)) (spaced texts) ∙ no_bad_from (spaced texts) 0 (spaced_bytes texts all)

pub spaced_feed : (texts : List (List ℕ)) → AllByRecursion IsWord texts → NoFeed (spaced texts)
spaced_feed texts all = go (spaced texts) (spaced_bytes texts all)
  where
    go : (text : List ℕ) → list_all is_spaced_byte text ≡ true → NoFeed text
    go [] all = tt
    go (b ∷ text) all = let both = and-true (is_spaced_byte b) (list_all is_spaced_byte text) all in ((spaced_byte b both.0).1, go text both.1)

pub spaced_no_feeds : (texts : List (List ℕ)) → AllByRecursion IsWord texts → list_all (λ b. not (eqb b 10)) (spaced texts) ≡ true
spaced_no_feeds texts all = all_weaker is_spaced_byte (λ b. not (eqb b 10)) (λ b h. ap not (spaced_byte b h).1) (spaced texts) (spaced_bytes texts all)

-- the first byte of a word
pub first_byte : (text : List ℕ) (word : IsWord text) → WordByte word.filled.0
first_byte text word =
    let first = word.filled in
    let all : list_all is_word_byte (first.0 ∷ first.1) ≡ true = ap (list_all is_word_byte) (sym first.2) ∙ word.bytes in
    word_byte first.0 (and-true (is_word_byte first.0) (list_all is_word_byte first.1) all).0

pub spaced_filled : (text : List ℕ) (texts : List (List ℕ)) → IsWord text → is_empty_line (spaced (text ∷ texts)) ≡ false
spaced_filled text texts word =
    let first = word.filled in
    ap (λ t. is_empty_line (t ++ flat_map (λ next. 32 ∷ next) texts)) first.2 ∙ ap (λ t. t && is_empty_line (first.1 ++ flat_map (λ next. 32 ∷ next) texts)) (first_byte text word).blank

-- spaced words write no empty constraint
pub spaced_no_degree : (texts : List (List ℕ)) → AllByRecursion IsWord texts → empty_degree (spaced texts) ≡ None
spaced_no_degree texts all = ap degree_word (spaced_words texts all) ∙ go texts all
  where
    alone : (text : List ℕ) → list_all is_word_byte text ≡ true → degree_word (text ∷ []) ≡ None
    alone [] all = refl
    alone (b ∷ text) all = ap (λ t. cond t (power_of text) None) (word_byte b (and-true (is_word_byte b) (list_all is_word_byte text) all).0).percent

    several : (text next : List ℕ) (texts : List (List ℕ)) → degree_word (text ∷ next ∷ texts) ≡ None
    several [] next texts = refl
    several (b ∷ text) next texts = refl

    go : (texts : List (List ℕ)) → AllByRecursion IsWord texts → degree_word texts ≡ None
    go [] all = refl
    go (text ∷ []) all = alone text all.0.bytes
    go (text ∷ next ∷ texts) all = several text next texts
