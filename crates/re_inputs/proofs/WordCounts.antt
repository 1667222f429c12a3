-- Too few words, or too many, name no input problem.
use Rattle.std.proofs.Common.{◌≡◌, ◌<◌, ℕ, List, [], ◌∷◌, None, length, map, refl, arith}
use Rattle.re_inputs.specs.InputWords.{input_word_of}

pub too_few : {X : Type 0} (f : X → List ℕ) (words : List X) → length words < 4 → input_word_of (map f words) ≡ None
unfolding input_word_of
too_few f [] few = refl
too_few f (a ∷ []) few = refl
too_few f (a ∷ b ∷ []) few = refl
too_few f (a ∷ b ∷ c ∷ []) few = refl
too_few f (a ∷ b ∷ c ∷ d ∷ more) few = absurd (omega (arith, few))

pub too_many : {X : Type 0} (f : X → List ℕ) (words : List X) → 5 < length words → input_word_of (map f words) ≡ None
unfolding input_word_of
too_many f [] many = absurd (omega (arith, many))
too_many f (a ∷ []) many = absurd (omega (arith, many))
too_many f (a ∷ b ∷ []) many = absurd (omega (arith, many))
too_many f (a ∷ b ∷ c ∷ []) many = absurd (omega (arith, many))
too_many f (a ∷ b ∷ c ∷ d ∷ []) many = absurd (omega (arith, many))
too_many f (a ∷ b ∷ c ∷ d ∷ e ∷ []) many = absurd (omega (arith, many))
too_many f (a ∷ b ∷ c ∷ d ∷ e ∷ g ∷ more) many = refl
