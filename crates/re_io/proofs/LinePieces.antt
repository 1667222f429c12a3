-- The pieces of which a line is put together.
use Rattle.std.proofs.Common.{◌≡◌, ℕ, ◌+◌, ◌-◌, ◌<◌, ◌≤◌, true, false, eqb, List, [], ◌∷◌, ◌++◌, length, take, drop, get_or, Some, None, Contains, refl, sym, ap, ◌∙◌, arith, length-append, length-take, take-append-drop, eq-eqb, append-nil, append_assoc}
use Rattle.std.proofs.Common.{◌⊎◌, inl, inr}
use Rattle.std.specs.List.{position, position_or_len}
use Rattle.std.proofs.lemmas.Bool.{cases_lt, eqb-true}
use Rattle.std.proofs.lemmas.Bool.Decides.{nat_tests}
use Rattle.std.proofs.lemmas.Grind.{common_steps}
use Rattle.std.proofs.lemmas.List.{drop-drop, take_rest, get_or-take, drop_more, get_or_append_left, get_or-append_right}
use Rattle.std.proofs.lemmas.List.Quantifiers.{position-Some}
use Rattle.std.proofs.lemmas.List.Sums.{fails_before_first}
use Rattle.re_io.specs.LineReading.{GivesPart, IsFirstLine}

-- no line feed stands before the first one
pub no_feed_before : (xs : List ℕ) (i : ℕ) → Some i ≡ position (λ b. eqb b 10) xs → Contains (take i xs) 10 → ⊥
no_feed_before xs i found (k, within, there) =
    let first = position-Some (λ b. eqb b 10) xs i 10 (sym found) in
    let below : k < i = omega (arith, within, length-take i xs) in
    let same : get_or xs k 10 ≡ 10 = sym (get_or-take i xs k 10 below) ∙ there in
    let no : eqb (get_or xs k 10) 10 ≡ false = first.2 k below in
    let yes : eqb (get_or xs k 10) 10 ≡ true = eq-eqb _ _ same in
    cc

pub no_feed_at_all : (xs : List ℕ) → None ≡ position (λ b. eqb b 10) xs → Contains xs 10 → ⊥
no_feed_at_all xs none (k, within, there) =
    let all : length xs ≤ position_or_len (λ b. eqb b 10) xs = grind (arith, common_steps, nat_tests) in
    let no : eqb (get_or xs k 10) 10 ≡ false = fails_before_first (λ b. eqb b 10) xs k 10 (omega arith) in
    let yes : eqb (get_or xs k 10) 10 ≡ true = eq-eqb _ _ there in
    cc

-- the bytes before the first line feed, and those behind it
pub feed_cut : (xs : List ℕ) (i : ℕ) → Some i ≡ position (λ b. eqb b 10) xs → xs ≡ take i xs ++ (10 ∷ drop (i + 1) xs)
feed_cut xs i found =
    let first = position-Some (λ b. eqb b 10) xs i 10 (sym found) in
    let feed : get_or xs i 10 ≡ 10 = eqb-true _ _ first.1 in
    sym (take-append-drop i xs) ∙ ap (λ l. take i xs ++ l) (drop_more xs i 10 first.0 ∙ ap (λ x. x ∷ drop (i + 1) xs) feed)

-- the first line of a text, cut off
pub first_cut : (text : List ℕ) (at : ℕ) → Some at ≡ position (λ b. eqb b 10) text
    → IsFirstLine text (record { text = take at text; ended = true }) (take (length text - (at + 1)) (drop (at + 1) text)) None
first_cut text at found = record {
  bytes = feed_cut text at found ∙ sym (append_assoc (take at text) (10 ∷ []) (drop (at + 1) text)) ∙ ap (λ rest. (take at text ++ 10 ∷ []) ++ rest) (sym (take_rest text (at + 1)));
  whole = no_feed_before text at found;
  filled = λ unended. absurd (cc);
  last = λ unended. absurd (cc);
}

pub last_cut : (text : List ℕ) → 0 < length text → None ≡ position (λ b. eqb b 10) text
    → IsFirstLine text (record { text = text; ended = false }) (take (length text - length text) (drop (length text) text)) None
last_cut text some none =
    let nothing : take (length text - length text) (drop (length text) text) ≡ [] = (let n : length text - length text ≡ 0 = omega arith in ap (λ n. take n (drop (length text) text)) n) in
    record {
      bytes = sym (append-nil text) ∙ ap (λ rest. text ++ rest) (sym nothing);
      whole = no_feed_at_all text none;
      filled = λ unended same. (let empty : length text ≡ 0 = ap length same in omega arith);
      last = λ unended. (nothing, tt);
    }

pub no_feed_append : (a b : List ℕ) → (Contains a 10 → ⊥) → (Contains b 10 → ⊥) → Contains (a ++ b) 10 → ⊥
no_feed_append a b left right (k, within, there) = go (cases_lt k (length a))
  where
    go : (k < length a) ⊎ (length a ≤ k) → ⊥
    go (inl low) = left (k, low, sym (get_or_append_left a b 10 k low) ∙ there)
    go (inr high) = right (k - length a, omega (arith, within, length-append a b), sym (get_or-append_right a b (length a) k 10 refl high) ∙ there)

-- what is left of the bytes xs from a place on, as it is read
abbrev rest_from : List ℕ → ℕ → List ℕ
rest_from xs at = take (length xs - at) (drop at xs)

module _ (xs : List ℕ) (at : ℕ) (pending before after : List ℕ) (same : drop at xs ≡ pending) where
  read : rest_from xs at ≡ pending
  read = take_rest xs at ∙ same

  pub part_with_feed : (i : ℕ) → Some i ≡ position (λ b. eqb b 10) (rest_from xs at) → after ≡ before ++ take i (rest_from xs at)
      → GivesPart pending before true after (drop (at + (i + 1)) xs)
  part_with_feed i found text =
      let found' : Some i ≡ position (λ b. eqb b 10) pending = found ∙ ap (position (λ b. eqb b 10)) read in
      let left : drop (i + 1) pending ≡ drop (at + (i + 1)) xs = ap (drop (i + 1)) (sym same) ∙ drop-drop (i + 1) at xs in
      record {
        piece = take i pending;
        text = text ∙ ap (λ l. before ++ take i l) read;
        whole = no_feed_before pending i found';
        moved = feed_cut pending i found' ∙ ap (λ l. take i pending ++ (10 ∷ l)) left;
      }

  pub part_without_feed : (rest : List ℕ) → None ≡ position (λ b. eqb b 10) (rest_from xs at) → after ≡ before ++ rest_from xs at
      → rest ≡ [] → GivesPart pending before false after rest
  part_without_feed rest none text left = record {
    piece = pending;
    text = text ∙ ap (λ l. before ++ l) read;
    whole = no_feed_at_all pending (none ∙ ap (position (λ b. eqb b 10)) read);
    moved = (refl, left);
  }
