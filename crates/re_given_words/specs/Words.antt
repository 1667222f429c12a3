-- The words `fit`, `given`, `rounds` and `product`.
use Rattle.std.specs.Prelude.{ℕ, ◌≤◌, nat_le, List, [], ◌∷◌, ◌++◌, codes, if◌then◌else◌, Option, None, Some}
use Rattle.std.specs.Str.{bytes_eq}
use Rattle.re_cert.specs.declared.certificate.TheConstants.{MAX_STEPS}
use Rattle.re_problem.specs.Numerals.{number_of}
use Rattle.re_settings.specs.declared.bound_words.BoundWord.TheVariants.{Fit, Given}
use Rattle.re_given_words.specs.declared.words.GivenWord.{GivenWord}
use Rattle.re_given_words.specs.declared.words.GivenWord.TheVariants.{OfBound, Product, Rounds}

-- `rounds` with this number
abbrev pub rounds_with : Option ℕ → Option GivenWord
rounds_with None = None
rounds_with (Some most) = if nat_le most MAX_STEPS then Some (Rounds most) else None

-- the word that these words are
unfoldable pub given_word_of : List (List ℕ) → Option GivenWord
given_word_of (word ∷ []) =
    if bytes_eq (codes "fit") word then Some (OfBound Fit)
    else if bytes_eq (codes "given") word then Some (OfBound Given)
    else if bytes_eq (codes "product") word then Some Product else None
given_word_of (word ∷ most ∷ []) = if bytes_eq (codes "rounds") word then rounds_with (number_of most) else None
given_word_of words = None

-- the number of `rounds` is one that it can have
abbrev pub IsGivenWord : GivenWord → Type 0
IsGivenWord (OfBound word) = Unit {0}
IsGivenWord (Rounds most) = most ≤ 64
IsGivenWord Product = Unit {0}

-- the lines of help
unfoldable pub given_help : List ℕ
given_help =
    codes "fit: reads a chain, a line == given and an input problem, gives the labels that solve its last problem in 0 rounds given that input\n"
    ++ codes "given: reads a chain or a certificate, a line == given and an input problem, gives the verdict on it given that input\n"
    ++ codes "rounds K: reads a problem, or one with a line == given and an input problem, gives its number of rounds, up to K, which is at most 64, given that input\n"
    ++ codes "product: reads a problem, a line == given and an input problem, gives the problem whose labels are pairs of a label of each\n"
