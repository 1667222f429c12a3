-- Lines of help, one after another.
use Rattle.std.proofs.Common.{◌≡◌, ℕ, suc, Bool, true, false, nat_le, List, ◌∷◌, ◌++◌, append_assoc, take, refl, sym, ap, ◌∙◌}
use Rattle.std.specs.Prelude.{codes, filter}
use Rattle.std.specs.List.{flat_map, list_all}
use Rattle.re_problem.specs.ProblemTexts.{lines_of}
use Rattle.re_distances.specs.Distances.{distance}
use Rattle.re_asking.specs.NearWords.{asked, is_nearest, line_word}

-- a line that passes stays, and another one goes
filter_there : {X : Type 0} (p : X → Bool) (x : X) (xs : List X) → p x ≡ true → filter p (x ∷ xs) ≡ x ∷ filter p xs
filter_there p x xs is = rw is refl

filter_past : {X : Type 0} (p : X → Bool) (x : X) (xs : List X) → p x ≡ false → filter p (x ∷ xs) ≡ filter p xs
filter_past p x xs is = rw is refl

-- ---- near words
-- what is to be put of the words of the rest
abbrev pub near_left : ℕ → List ℕ → List ℕ → List ℕ → List ℕ
near_left left word text rest = flat_map asked (take left (filter (is_nearest word (lines_of text)) (lines_of rest)))

module _ (word text rest line behind : List ℕ) (cut : lines_of rest ≡ line ∷ lines_of behind) where
  nearest : List (List ℕ) → List (List ℕ)
  nearest lines = filter (is_nearest word (lines_of text)) lines

  pub near_there : (left : ℕ) (out more whole : List ℕ) → out ++ near_left (suc left) word text rest ≡ whole → is_nearest word (lines_of text) line ≡ true
      → more ≡ (out ++ line_word line) ++ codes "? " → more ++ near_left left word text behind ≡ whole
  unfolding nearest
  near_there left out more whole so_far is put =
      ap (λ l. l ++ near_left left word text behind) (put ∙ append_assoc out (line_word line) (codes "? ")) ∙ append_assoc out (asked line) (near_left left word text behind)
      ∙ ap (λ l. out ++ l) (sym (ap (λ l. flat_map asked (take (suc left) (nearest l))) cut ∙ ap (λ l. flat_map asked (take (suc left) l)) (filter_there (is_nearest word (lines_of text)) line (lines_of behind) is)))
      ∙ so_far

  pub near_past : (left : ℕ) (out whole : List ℕ) → out ++ near_left left word text rest ≡ whole → is_nearest word (lines_of text) line ≡ false → out ++ near_left left word text behind ≡ whole
  unfolding nearest
  near_past left out whole so_far is =
      ap (λ l. out ++ l) (sym (ap (λ l. flat_map asked (take left (nearest l))) cut ∙ ap (λ l. flat_map asked (take left l)) (filter_past (is_nearest word (lines_of text)) line (lines_of behind) is)))
      ∙ so_far

  -- by the distance of the word to that of the line, and whether it is the least
  pub least_is : (own : List ℕ) (number : ℕ) (least b : Bool) → own ≡ line_word line → number ≡ distance word own
      → least ≡ list_all (λ other. nat_le number (distance word (line_word other))) (lines_of text) → least ≡ b → is_nearest word (lines_of text) line ≡ b
  least_is own number least b of is all holds =
      ap (λ n. list_all (λ other. nat_le n (distance word (line_word other))) (lines_of text)) (sym (is ∙ ap (distance word) of)) ∙ sym all ∙ holds
