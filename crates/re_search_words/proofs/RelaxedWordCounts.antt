-- Words that are too few or too many are none of the words.
use Rattle.std.proofs.Common.{◌≡◌, ℕ, ◌<◌, ◌≤◌, List, [], ◌∷◌, None, length, refl, arith}
use Rattle.re_search_words.specs.RelaxedWords.{relaxed_word_of}

pub few_words : (words : List (List ℕ)) → length words < 1 → relaxed_word_of words ≡ None
unfolding relaxed_word_of
few_words [] few = refl
few_words (a ∷ words) few = absurd (grind arith)

pub many_words : (words : List (List ℕ)) → 3 ≤ length words → relaxed_word_of words ≡ None
unfolding relaxed_word_of
many_words [] many = refl
many_words (a ∷ []) many = absurd (grind arith)
many_words (a ∷ b ∷ []) many = absurd (grind arith)
many_words (a ∷ b ∷ d ∷ words) many = refl
