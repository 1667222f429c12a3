-- What the words may answer to a text.
use Rattle.std.specs.Prelude.{ℕ, List}
use Rattle.re_frame.specs.Outcomes.{Outcome}
use Rattle.re_given_words.specs.ProductTexts.{IsProduct}
use Rattle.re_given_words.specs.RoundsTexts.{MayCount}
use Rattle.re_settings.specs.Meanings.{IsJudged}
use Rattle.re_given_words.specs.declared.words.GivenWord.{GivenWord}
use Rattle.re_given_words.specs.declared.words.GivenWord.TheVariants.{OfBound, Product, Rounds}

-- what a word may give to a text
unfoldable pub MayGive : GivenWord → List ℕ → Outcome → Type 0
MayGive (OfBound word) bytes outcome = IsJudged word bytes outcome
MayGive (Rounds most) bytes outcome = MayCount most bytes outcome
MayGive Product bytes outcome = IsProduct bytes outcome
