-- The words `bridge` and `reduce`, and what they may answer.
use Rattle.std.specs.Prelude.{◌≡◌, ℕ, List, [], ◌∷◌, ◌++◌, codes, if◌then◌else◌, Option, None, Some}
use Rattle.std.specs.Str.{bytes_eq}
use Rattle.re_frame.specs.Outcomes.{Outcome, refused}
use Rattle.re_frame.specs.declared.status.Status.TheVariants.{Done}
use Rattle.re_bridge_words.specs.BridgeWords.{BridgeWorth, text_outcome}
use Rattle.re_bridge_words.specs.Laws.{NoWorth}
use Rattle.re_bridge_words.specs.ReduceWords.{ReduceWorth, reduce_outcome}
use Rattle.re_bridge_words.specs.declared.words.BridgeWord.{BridgeWord}
use Rattle.re_bridge_words.specs.declared.words.BridgeWord.TheVariants.{Bridge, Reduce}

-- the word that these words are
unfoldable pub bridge_word_of : List (List ℕ) → Option BridgeWord
bridge_word_of (word ∷ []) = if bytes_eq (codes "bridge") word then Some Bridge else if bytes_eq (codes "reduce") word then Some Reduce else None
bridge_word_of words = None

-- the lines of help
unfoldable pub bridge_help : List ℕ
bridge_help =
    codes "bridge: reads a chain, a line == to and a problem, gives the chain with one more step, to this problem\n"
    ++ codes "reduce: reads a problem, or one with a line == given and an input problem, gives it, or the product of both, with as few labels as a map of it into itself leaves, which takes as many rounds\n"

-- what a word gives to a text
abbrev pub word_outcome : BridgeWord → List ℕ → Outcome
word_outcome Bridge bytes = text_outcome bytes
word_outcome Reduce bytes = reduce_outcome bytes

-- what is known of the text of an answer Done
abbrev pub WordWorth : BridgeWord → List ℕ → List ℕ → Type 0
WordWorth Bridge bytes text = BridgeWorth bytes text
WordWorth Reduce bytes text = ReduceWorth bytes text

-- what is known where the answer is the line `no` alone, which `reduce` never gives
abbrev pub WordNo : BridgeWord → List ℕ → Type 0
WordNo Bridge bytes = NoWorth bytes
WordNo Reduce bytes = Unit {0}

-- what a word may answer to a text: one outcome alone, this is known of its text, and this where it is `no`
pub record MayGive (word : BridgeWord) (bytes : List ℕ) (outcome : Outcome) : Type 0 where
  pub one : outcome ≡ word_outcome word bytes
  pub worth : outcome.status ≡ Done → WordWorth word bytes outcome.text
  pub no : outcome ≡ refused (codes "no\n") → WordNo word bytes
