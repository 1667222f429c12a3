-- The words of families some of whose words read an input problem behind a line `== given`.
use Rattle.std.specs.Prelude.{ℕ, List, Option, None, Some}
use Rattle.re_asking.specs.declared.beside.FrontText.{FrontText}
use Rattle.re_asking.specs.declared.beside.FrontText.TheVariants.{Chain, Problem}
use Rattle.re_bridge_words.specs.Answers.{MayGive as MayGiveBridge}
use Rattle.re_bridge_words.specs.declared.words.BridgeWord.TheVariants.{Bridge, Reduce}
use Rattle.re_closure.specs.ClosureWords.{MayGive as MayGiveClosure}
use Rattle.re_frame.specs.Outcomes.{Outcome}
use Rattle.re_given_words.specs.Answers.{MayGive as MayGiveGiven}
use Rattle.re_given_words.specs.Words.{IsGivenWord}
use Rattle.re_given_words.specs.declared.words.GivenWord.TheVariants.{OfBound, Product, Rounds}
use Rattle.re_graph_words.specs.GraphWords.{MayGive as MayGiveGraph}
use Rattle.re_graph_words.specs.Words.{IsGraphWord}
use Rattle.re_graph_words.specs.declared.words.GraphWord.TheVariants.{Cover, Solve}
use Rattle.re_search_words.specs.MayGive.{MayGive as MayGiveSearched}
use Rattle.re_search_words.specs.Words.{IsSearchWord}
use Rattle.re_settle.specs.GivenAnswers.{MaySettle}
use Rattle.re_settle.specs.Words.{IsSettleWord}
use Rattle.re_explore.specs.declared.text_words.TextWord.{TextWord}
use Rattle.re_explore.specs.declared.text_words.TextWord.TheVariants.{Bridges, Closes, Givens, Graphs, Searches, Settles}

-- the numbers of the word are such as words can give it
abbrev pub IsTextWord : TextWord → Type 0
IsTextWord (Searches word) = IsSearchWord word
IsTextWord (Closes word) = Unit {0}
IsTextWord (Bridges word) = Unit {0}
IsTextWord (Graphs word) = IsGraphWord word
IsTextWord (Givens word) = IsGivenWord word
IsTextWord (Settles word) = IsSettleWord word

-- what the word may give to a text
abbrev pub MayGiveWord : TextWord → List ℕ → Outcome → Type 0
MayGiveWord (Searches word) bytes outcome = MayGiveSearched word bytes outcome
MayGiveWord (Closes word) bytes outcome = MayGiveClosure word bytes outcome
MayGiveWord (Bridges word) bytes outcome = MayGiveBridge word bytes outcome
MayGiveWord (Graphs word) bytes outcome = MayGiveGraph word bytes outcome
MayGiveWord (Givens word) bytes outcome = MayGiveGiven word bytes outcome
MayGiveWord (Settles word) bytes outcome = MaySettle word bytes outcome

-- what it reads in front of an input problem, if it reads one at the end of its text
abbrev pub front_of : TextWord → Option FrontText
front_of (Searches word) = Some Chain
front_of (Closes word) = Some Chain
front_of (Bridges Bridge) = None
front_of (Bridges Reduce) = Some Problem
front_of (Graphs Solve) = None
front_of (Graphs (Cover nodes)) = Some Problem
front_of (Givens (OfBound word)) = Some Chain
front_of (Givens (Rounds most)) = Some Problem
front_of (Givens Product) = Some Problem
front_of (Settles word) = Some Problem
