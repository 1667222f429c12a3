-- Words that are too few or too many name no search.
use Rattle.std.proofs.Common.{◌≡◌, ℕ, ◌<◌, ◌≤◌, List, [], ◌∷◌, None, length, refl, arith}
use Rattle.re_search_words.specs.Words.{search_word_of}

pub few_words : (words : List (List ℕ)) → length words < 3 → search_word_of words ≡ None
unfolding search_word_of
few_words [] few = refl
few_words (a ∷ []) few = refl
few_words (a ∷ b ∷ []) few = refl
few_words (a ∷ b ∷ d ∷ words) few = absurd (grind arith)

pub many_words : (words : List (List ℕ)) → 5 ≤ length words → search_word_of words ≡ None
unfolding search_word_of
many_words [] many = refl
many_words (a ∷ []) many = refl
many_words (a ∷ b ∷ []) many = refl
many_words (a ∷ b ∷ d ∷ []) many = absurd (grind arith)
many_words (a ∷ b ∷ d ∷ e ∷ []) many = absurd (grind arith)
many_words (a ∷ b ∷ d ∷ e ∷ f ∷ words) many = refl
