-- What `explore` answers to words and bytes.
use Rattle.std.specs.Prelude.{◌≡◌, ℕ, Bool, List, Option, None, Some}
use Rattle.re_frame.specs.Outcomes.{Outcome}
use Rattle.re_frame.specs.Runs.{MaySay}
use Rattle.re_frame.specs.declared.status.Status.{Status}
use Rattle.re_frame.specs.declared.status.Status.TheVariants.{BadWords}
use Rattle.re_explore.specs.Commands.{command_of, IsOutcome, is_judging, is_reading, is_telling}
use Rattle.re_explore.specs.declared.command.Command.{Command}

-- the outcome is one that these words may have and, where the command reads, these bytes
abbrev pub IsExpected : List (List ℕ) → List ℕ → Outcome → Type 0
IsExpected words bytes outcome = IsOutcome words (command_of words) bytes outcome

-- the words name a command that reads its input
abbrev pub reads_input : List (List ℕ) → Bool
reads_input words = is_reading (command_of words)

-- the words name a command whose text is written piece by piece
abbrev pub tells_ahead : List (List ℕ) → Bool
tells_ahead words = is_telling (command_of words)

-- BadWords where there is no command, and else what that may answer
abbrev pub Says : Status → Option Command → Type 0
Says status None = status ≡ BadWords
Says status (Some command) = MaySay status (is_judging (Some command))
