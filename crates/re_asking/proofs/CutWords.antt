-- Words cut at the first `given` behind the first of them.
use Rattle.std.proofs.Common.{◌≡◌, ◌<◌, ◌+◌, ℕ, suc, List, [], ◌∷◌, None, drop, length, map, take, refl, sym, ap, ◌∙◌, arith}
use Rattle.std.proofs.lemmas.List.{drop-map, take-map}
use Rattle.std.specs.List.{after_first, position_or_len}
use Rattle.re_asking.specs.BesideWords.{input_by, is_given, own_words, words_behind}

module _ {X : Type 0} (f : X → List ℕ) (words others cut : List X) (place : ℕ) where
  pub own_taken : others ≡ drop 1 words → cut ≡ take (place + 1) words → (words ≡ [] → ⊥) → place ≡ position_or_len is_given (map f others) → map f cut ≡ own_words (map f words)
  own_taken behind is some at = ap (map f) is ∙ go words some (at ∙ ap (λ l. position_or_len is_given (map f l)) behind)
    where
      go : (words : List X) → (words ≡ [] → ⊥) → place ≡ position_or_len is_given (map f (drop 1 words)) → map f (take (place + 1) words) ≡ own_words (map f words)
      go [] some at = absurd (some refl)
      go (word ∷ words) some at =
          let more : place + 1 ≡ suc place = omega arith in
          ap (λ n. map f (take n (word ∷ words))) more ∙ ap (λ l. f word ∷ l) (sym (take-map f place words) ∙ ap (λ n. take n (map f words)) at)

  pub behind_dropped : cut ≡ drop (place + 1) words → place ≡ position_or_len is_given (map f words) → map f cut ≡ after_first is_given (map f words)
  behind_dropped is at = ap (map f) is ∙ sym (drop-map f (place + 1) words) ∙ ap (λ n. drop (n + 1) (map f words)) at

pub behind_of : {X : Type 0} (f : X → List ℕ) (words others : List X) → others ≡ drop 1 words → after_first is_given (map f others) ≡ words_behind (map f words)
behind_of f [] others is = ap (λ l. after_first is_given (map f l)) is
behind_of f (word ∷ words) others is = ap (λ l. after_first is_given (map f l)) is

pub too_many : {X : Type 0} (f : X → List ℕ) (words : List X) → 3 < length words → input_by (map f words) ≡ None
unfolding input_by
too_many f [] many = absurd (omega (arith, many))
too_many f (a ∷ []) many = absurd (omega (arith, many))
too_many f (a ∷ b ∷ []) many = absurd (omega (arith, many))
too_many f (a ∷ b ∷ c ∷ []) many = absurd (omega (arith, many))
too_many f (a ∷ b ∷ c ∷ d ∷ more) many = refl
