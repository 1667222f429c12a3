-- What is told piece by piece of an input, and what a run leaves of it that stops.
use Rattle.std.specs.Prelude.{◌≡◌, ◌≤◌, ◌⊎◌, ℕ, List, ◌++◌, length, Option, Some}
use Rattle.std.specs.Io.KnownBytes.{Appends, Keeps}
use Rattle.re_frame.specs.Answers.{MayAnswer}
use Rattle.re_frame.specs.Outcomes.{Outcome, outcome_of, status_of}
use Rattle.re_io.specs.declared.read.TheConstants.{MAX_BYTES}
use Rattle.re_settle.specs.Pieces.{IsClaimedOf, IsEnded}
use Rattle.re_settle.specs.declared.claimed.Claimed.{Claimed}
use Rattle.re_settle.specs.declared.claimed.Telling.{Telling}
use Rattle.re_settle.specs.declared.claimed.Telling.TheVariants.{Claims, Whole}
use Rattle.re_settle.specs.declared.words.SettleWord.{SettleWord}
use Rattle.re_explore.specs.Commands.{command_of}
use Rattle.re_explore.specs.Expected.{IsExpected, Says}
use Rattle.re_explore.specs.TextWords.{MayGiveWord}
use Rattle.re_explore.specs.declared.command.Command.{Command}
use Rattle.re_explore.specs.declared.command.Command.TheVariants.{Reads}
use Rattle.re_explore.specs.declared.text_words.TextWord.TheVariants.{Settles}

-- ---- what is told
-- this is claimed of the problem of the input, which isn't too long
pub record IsClaimedIn (word : SettleWord) (bytes : List ℕ) (claimed : Claimed) : Type 0 where
  pub few : length bytes ≤ MAX_BYTES
  pub claim : IsClaimedOf word bytes claimed

-- what `settle` may tell of an input at once: the whole of what it may answer, or what is claimed
abbrev pub MayTellInput : SettleWord → List ℕ → Telling → Type 0
MayTellInput word bytes (Whole output) = MayAnswer (MayGiveWord (Settles word)) bytes (outcome_of output)
MayTellInput word bytes (Claims claimed) = IsClaimedIn word bytes claimed

-- the words name `settle`, and this is claimed of the input
pub record IsClaimedBy (words : List (List ℕ)) (bytes : List ℕ) (claimed : Claimed) : Type 0 where
  pub word : SettleWord
  pub named : command_of words ≡ Some (Reads (Settles word))
  pub claim : IsClaimedIn word bytes claimed

-- what the words may tell of bytes: an outcome that is expected of them, or what is claimed
abbrev pub MayTellOf : List (List ℕ) → List ℕ → Telling → Type 0
MayTellOf words bytes (Whole output) = IsExpected words bytes (outcome_of output)
MayTellOf words bytes (Claims claimed) = IsClaimedBy words bytes claimed

-- whatever the bytes: what the command may say, or it is `settle`
abbrev pub SaysTelling : Telling → Option Command → Type 0
SaysTelling (Whole output) command = Says (status_of output.answer) command
SaysTelling (Claims claimed) command = (word : SettleWord) × (command ≡ Some (Reads (Settles word)))

-- ---- what is left of it
-- known bytes grow by whole lines, which are the front of the text
pub record StopsAtLine (old new : Option (List ℕ)) (text : List ℕ) : Type 0 where
  pub front : List ℕ
  pub rest : List ℕ
  pub is : text ≡ front ++ rest
  pub ended : IsEnded front
  pub grows : Appends old new front

-- nothing is written, or whole lines of an outcome that is expected
abbrev pub KeepsOrStops : List (List ℕ) → List ℕ → Option (List ℕ) → Option (List ℕ) → Type 0
KeepsOrStops words bytes old new = Keeps old new ⊎ ((outcome : Outcome) × IsExpected words bytes outcome × StopsAtLine old new outcome.text)
