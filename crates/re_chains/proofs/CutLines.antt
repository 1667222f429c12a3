-- A text, line by line to the line that names what follows.
use Rattle.std.proofs.Common.{◌≡◌, ℕ, zero, suc, ◌<◌, ◌≤◌, ◌+◌, true, false, List, [], ◌∷◌, ◌++◌, length, length-append, append_assoc, take, drop, refl, sym, ap, ◌∙◌, arith}
use Rattle.std.specs.List.{after_first, before_first, list_any}
use Rattle.std.proofs.lemmas.List.{append-nil, take-append-drop}
use Rattle.re_problem.proofs.TextLines.{bytes_more}
use Rattle.re_problem.specs.ProblemTexts.{bytes_of, lines_of}
use Rattle.re_chains.specs.TwoTexts.{front_text, has_line, is_line, lines_behind, lines_before, lines_to}
use Rattle.re_chains.proofs.Splits.{after_there, any_there, before_there, none_more, to_there}

-- how far a text is read, and what is left of it: none of the lines that were read is that line
pub record CutSoFar (name text : List ℕ) (byte number : ℕ) (rest : List ℕ) : Type 0 where
  pub before : List (List ℕ)
  pub lines : lines_of text ≡ before ++ lines_of rest
  pub none : list_any (is_line name) before ≡ false
  pub byte_is : byte ≡ bytes_of before
  pub number_is : number ≡ length before + 1
  pub counted : number ≤ byte + 1
  pub bytes : byte + length rest ≤ length text + 1
  pub within : 0 < length rest → byte + length rest ≤ length text

pub nothing_cut : (name text : List ℕ) → CutSoFar name text 0 1 text
nothing_cut name text = record { before = []; lines = refl; none = refl; byte_is = refl; number_is = refl; counted = omega arith; bytes = omega arith; within = λ some. omega arith }

module _ (name text : List ℕ) (byte number : ℕ) (rest line behind : List ℕ) (s : CutSoFar name text byte number rest) (cut : lines_of rest ≡ line ∷ lines_of behind) where
  lines_there : lines_of text ≡ s.before ++ line ∷ lines_of behind
  lines_there = s.lines ∙ ap (λ l. s.before ++ l) cut

  pub line_passed : is_line name line ≡ false → length line ≤ length rest → length behind < length rest → (0 < length behind → length line + 1 + length behind ≤ length rest)
      → CutSoFar name text (byte + (length line + 1)) (number + 1) behind
  line_passed other within less left = record {
    before = s.before ++ line ∷ [];
    lines = lines_there ∙ sym (append_assoc s.before (line ∷ []) (lines_of behind));
    none = none_more (is_line name) s.before line s.none other;
    byte_is = (let more = bytes_more s.before line in let is = s.byte_is in omega arith);
    number_is = (let more = length-append s.before (line ∷ []) in let is = s.number_is in omega arith);
    counted = (let c = s.counted in omega arith);
    bytes = go (length behind) refl;
    within = λ some. (let old = s.within (omega arith) in let fits = left some in omega arith);
  }
    where
      go : (n : ℕ) → length behind ≡ n → byte + (length line + 1) + length behind ≤ length text + 1
      go zero none = let old = s.within (omega arith) in omega arith
      go (suc n) some = let old = s.within (omega arith) in let fits = left (omega arith) in omega arith

  module _ (here : is_line name line ≡ true) where
    pub has_there : has_line name text ≡ true
    has_there = ap (list_any (is_line name)) lines_there ∙ any_there (is_line name) s.before line (lines_of behind) s.none here

    front : lines_before name text ≡ s.before
    front = ap (before_first (is_line name)) lines_there ∙ before_there (is_line name) s.before line (lines_of behind) s.none here

    pub front_there : take byte text ≡ front_text name text
    front_there = ap (λ n. take n text) (s.byte_is ∙ ap bytes_of (sym front))

    pub behind_there : lines_of behind ≡ lines_behind name text
    behind_there = sym (ap (after_first (is_line name)) lines_there ∙ after_there (is_line name) s.before line (lines_of behind) s.none here)

    to_is : lines_to name text ≡ s.before ++ line ∷ []
    to_is = ap (λ (l : List (List ℕ)). take (length (before_first (is_line name) l) + 1) l) lines_there ∙ to_there (is_line name) s.before line (lines_of behind) s.none here

    pub byte_there : byte + length line + 1 ≡ bytes_of (lines_to name text)
    byte_there = (let more = bytes_more s.before line in let is = s.byte_is in omega (arith, ap bytes_of to_is))

    pub number_there : number + 1 ≡ length (lines_to name text) + 1
    number_there = (let more = length-append s.before (line ∷ []) in let is = s.number_is in omega (arith, ap length to_is))

  pub within_there : length behind < length rest → (0 < length behind → length line + 1 + length behind ≤ length rest) → 0 < length behind → byte + length line + 1 + length behind ≤ length text
  within_there less left some = let old = s.within (omega arith) in let fits = left some in omega arith

  pub counted_there : number + 1 ≤ byte + length line + 1 + 1
  counted_there = let c = s.counted in omega arith

-- a front is no longer than the whole
pub no_longer : (n : ℕ) (text : List ℕ) → length (take n text) ≤ length text
no_longer n text = omega (arith, ap length (take-append-drop n text), length-append (take n text) (drop n text))

-- the lines were read to the end
pub none_there : (name text : List ℕ) (byte number : ℕ) (rest : List ℕ) → CutSoFar name text byte number rest → length rest ≡ 0 → has_line name text ≡ false
none_there name text byte number (b ∷ rest) s end = absurd (omega arith)
none_there name text byte number [] s end = ap (list_any (is_line name)) (s.lines ∙ append-nil s.before) ∙ s.none
