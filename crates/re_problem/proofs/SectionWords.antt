-- The words of a section line, one after another.
use Rattle.re_problem.proofs.FedLines.{unnot}
use Rattle.std.proofs.Common.{◌≡◌, ℕ, zero, suc, ◌+◌, ◌-◌, ◌<◌, ◌≤◌, Bool, true, false, cond, not, List, [], ◌∷◌, length, take, drop, filter, Some, None, refl, sym, ap, ◌∙◌, arith, get_or}
use Rattle.std.specs.List.{onto_first, position, position_or_len, slice_split}
use Rattle.std.proofs.lemmas.Bool.Decides.{nat_tests}
use Rattle.std.proofs.lemmas.Grind.{common_steps}
use Rattle.std.proofs.lemmas.List.{drop_all, drop_more, take_rest}
use Rattle.std.proofs.lemmas.List.Quantifiers.{position-Some}
use Rattle.std.proofs.lemmas.List.Sums.{fails_before_first}
use Rattle.re_problem.proofs.ItemShapes.{cut_at, cut_none}
use Rattle.re_problem.specs.Bytes.{is_blank}
use Rattle.re_problem.specs.ItemSteps.{is_nil}
use Rattle.re_problem.specs.SectionLines.{words_of}

blank_first : (b : ℕ) (line : List ℕ) → is_blank b ≡ true → words_of (b ∷ line) ≡ words_of line
blank_first b line blank = ap (λ t. filter (λ word. not (is_nil word)) (cond t ([] ∷ slice_split is_blank line) (onto_first b (slice_split is_blank line)))) blank

-- blanks in front are nothing to the words
blanks_passed : (line : List ℕ) (from : ℕ) → ((k : ℕ) → k < from → not (is_blank (get_or line k 0)) ≡ false) → words_of line ≡ words_of (drop from line)
blanks_passed line zero before = refl
blanks_passed [] (suc from) before = refl
blanks_passed (b ∷ line) (suc from) before =
    blank_first b line (unnot (is_blank b) (before 0 (omega arith))) ∙ blanks_passed line from (λ k below. before (suc k) (omega arith))

blanks_alone : (line : List ℕ) → ((k : ℕ) → k < length line → not (is_blank (get_or line k 0)) ≡ false) → words_of line ≡ []
blanks_alone [] all = refl
blanks_alone (b ∷ line) all = blank_first b line (unnot (is_blank b) (all 0 (omega arith))) ∙ blanks_alone line (λ k below. all (suc k) (omega arith))

pub no_words : (line : List ℕ) → None ≡ position (λ b. not (is_blank b)) line → words_of line ≡ []
no_words line none =
    let end : length line ≤ position_or_len (λ b. not (is_blank b)) line = grind (arith, common_steps, nat_tests) in
    blanks_alone line (λ k below. fails_before_first (λ b. not (is_blank b)) line k 0 (omega arith))

-- from the first byte on that is no blank
begins_filled : (line : List ℕ) (from : ℕ) → position (λ b. not (is_blank b)) line ≡ Some from → (b : ℕ) × (rest : List ℕ) × (drop from line ≡ b ∷ rest) × (not (is_blank b) ≡ true)
begins_filled line from found =
    let first = position-Some (λ b. not (is_blank b)) line from 0 found in
    (get_or line from 0, drop (from + 1) line, drop_more line from 0 first.0, first.1)

take_filled : (b to : ℕ) (rest : List ℕ) → position is_blank (b ∷ rest) ≡ Some to → not (is_blank b) ≡ true → is_nil (take to (b ∷ rest)) ≡ false
take_filled b zero rest found filled =
    let blank : is_blank b ≡ true = (position-Some is_blank (b ∷ rest) 0 0 found).1 in
    let no : not (is_blank b) ≡ false = ap not blank in
    cc
take_filled b (suc to) rest found filled = refl

abbrev words_in : List (List ℕ) → List (List ℕ)
words_in pieces = filter (λ word. not (is_nil word)) pieces

one_kept : (word : List ℕ) (pieces : List (List ℕ)) → is_nil word ≡ false → words_in (word ∷ pieces) ≡ word ∷ words_in pieces
one_kept word pieces filled = ap (λ t. cond (not t) (word ∷ words_in pieces) (words_in pieces)) filled

module _ (line : List ℕ) (from : ℕ) (found : Some from ≡ position (λ b. not (is_blank b)) line) where
  abbrev rest : List ℕ
  rest = take (length line - from) (drop from line)

  passed : words_of line ≡ words_of rest
  passed = blanks_passed line from ((position-Some (λ b. not (is_blank b)) line from 0 (sym found)).2) ∙ ap words_of (sym (take_rest line from))

  begun : (b : ℕ) × (more : List ℕ) × (rest ≡ b ∷ more) × (not (is_blank b) ≡ true)
  begun = let first = begins_filled line from (sym found) in (first.0, first.1, take_rest line from ∙ first.2, first.3)

  pub word_cut : (to : ℕ) → Some to ≡ position is_blank rest → words_of line ≡ take to rest ∷ words_of (take (length rest - (to + 1)) (drop (to + 1) rest))
  word_cut to cut =
      let first = begun in
      let filled : is_nil (take to rest) ≡ false = ap (λ l. is_nil (take to l)) first.2 ∙ take_filled first.0 to first.1 (ap (position is_blank) (sym first.2) ∙ sym cut) first.3 in
      passed ∙ ap words_in (cut_at is_blank rest to (sym cut)) ∙ one_kept (take to rest) (slice_split is_blank (drop (to + 1) rest)) filled
      ∙ ap (λ l. take to rest ∷ words_of l) (sym (take_rest rest (to + 1)))

  pub last_word : None ≡ position is_blank rest → words_of line ≡ rest ∷ words_of (take (length rest - length rest) (drop (length rest) rest))
  last_word none =
      let first = begun in
      let filled : is_nil rest ≡ false = ap is_nil first.2 in
      let end : drop (length rest) rest ≡ [] = drop_all (length rest) rest (omega arith) in
      passed ∙ ap words_in (cut_none is_blank rest (sym none)) ∙ one_kept rest [] filled
      ∙ ap (λ l. rest ∷ words_of l) (sym (take_rest rest (length rest) ∙ end))
