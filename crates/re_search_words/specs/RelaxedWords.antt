-- The words `relaxed` and `through`, and what they may answer.
use Rattle.std.specs.Prelude.{ℕ, nat_le, ◌&&◌, List, [], ◌∷◌, codes, if◌then◌else◌, Option, Some, None}
use Rattle.std.specs.Str.{bytes_eq}
use Rattle.re_cert.specs.declared.certificate.TheConstants.{MAX_STEPS}
use Rattle.re_chains.specs.ChainTexts.{chain_fault, text_chain}
use Rattle.re_frame.specs.Outcomes.{Outcome}
use Rattle.re_settings.specs.declared.setting.Setting.TheVariants.{Alone}
use Rattle.re_problem.specs.Numerals.{number_of}
use Rattle.re_relaxed.specs.Library.{member_named}
use Rattle.re_relaxed.specs.declared.library.Member.{Member}
use Rattle.re_search_words.specs.declared.relaxed_words.RelaxedWord.{RelaxedWord}
use Rattle.re_search_words.specs.declared.relaxed_words.RelaxedWord.TheVariants.{Relaxed, Through}
use Rattle.re_relaxed.specs.declared.types.TheConstants.{MAX_RELAXATIONS}
use Rattle.re_search_words.specs.MayGive.{MayGiveRead}
use Rattle.re_search_words.specs.declared.words.SearchWord.TheVariants.{Cycle}

-- over at most so many relaxations, from 1 on
abbrev pub relaxed_with : Option ℕ → Option RelaxedWord
relaxed_with None = None
relaxed_with (Some nodes) = if nat_le 1 nodes && nat_le nodes MAX_RELAXATIONS then Some (Relaxed nodes) else None

-- through a problem of the library
abbrev pub through_with : Option Member → Option RelaxedWord
through_with None = None
through_with (Some member) = Some (Through (Some member))

-- `through` alone; `relaxed` with its number, or `through` with a name of the library
unfoldable pub relaxed_word_of : List (List ℕ) → Option RelaxedWord
relaxed_word_of (word ∷ []) = if bytes_eq (codes "through") word then Some (Through None) else None
relaxed_word_of (word ∷ more ∷ []) =
    if bytes_eq (codes "relaxed") word then relaxed_with (number_of more)
    else if bytes_eq (codes "through") word then through_with (member_named more)
    else None
relaxed_word_of words = None

-- the lines of help
unfoldable pub relaxed_help : List ℕ
relaxed_help =
    codes "relaxed N: reads a chain, gives a fixed point behind a relaxation of its last problem or of one behind it, of at most N looked at\nthrough, through NAME: reads a chain, gives a fixed point behind a step to one of a library, or to that of its problem NAME\n"

-- how many problems may be looked at for the word
abbrev pub looked_at : RelaxedWord → ℕ
looked_at (Relaxed nodes) = nodes
looked_at (Through member) = MAX_RELAXATIONS

-- what the word may give to a text: what `cycle` may give to its chain, with as many steps as a certificate may have
unfoldable pub MayGive : RelaxedWord → List ℕ → Outcome → Type 0
MayGive word bytes outcome = MayGiveRead (chain_fault bytes) (Cycle MAX_STEPS 0 (looked_at word)) Alone (text_chain bytes) outcome
