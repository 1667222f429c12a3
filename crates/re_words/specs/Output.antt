-- What the tool answers for words and bytes.
use Rattle.std.specs.Prelude.{ℕ, List, Option, Some, None, codes}
use Rattle.re_frame.specs.declared.status.Status.TheVariants.{BadWords}
use Rattle.re_words.specs.declared.command.Streaming.{Streaming}
use Rattle.re_words.specs.declared.command.Streaming.TheVariants.{Check}
use Rattle.re_words.specs.declared.command.Command.{Command}
use Rattle.re_words.specs.declared.command.Command.TheVariants.{Extracts, Makes, Maps, Reads, Streams, Tables, Runs}
use Rattle.re_frame.specs.Outcomes.{Outcome, within_limit}
use Rattle.re_frame.specs.Check.{check_outcome}
use Rattle.re_words.specs.Command.{command_of}
use Rattle.re_words.specs.Extracting.{extracting_outcome}
use Rattle.re_words.specs.Making.{making_outcome}
use Rattle.re_words.specs.Mapping.{mapping_outcome}
use Rattle.re_words.specs.Reading.{reading_outcome}
use Rattle.re_words.specs.Tabling.{tabling_outcome}
use Rattle.re_words.specs.Running.{running_outcome}

abbrev pub bad_words : Outcome
bad_words = record { status = BadWords; text = codes "words: not a command\n" }

-- the outcome of a command that goes through its input, within the limit
unfoldable pub streaming_outcome : Streaming → List ℕ → Outcome
streaming_outcome Check bytes = check_outcome bytes

unfoldable pub command_outcome : Option Command → List ℕ → Outcome
command_outcome None bytes = bad_words
command_outcome (Some (Streams streaming)) bytes = within_limit (streaming_outcome streaming) bytes
command_outcome (Some (Reads reading)) bytes = within_limit (reading_outcome reading) bytes
command_outcome (Some (Maps mapping)) bytes = within_limit (mapping_outcome mapping) bytes
command_outcome (Some (Tables form)) bytes = within_limit (tabling_outcome form) bytes
command_outcome (Some Extracts) bytes = within_limit extracting_outcome bytes
command_outcome (Some (Makes making)) bytes = making_outcome making
command_outcome (Some Runs) bytes = within_limit running_outcome bytes

-- what the tool answers for these words and, where the command reads, these bytes
unfoldable pub expected : List (List ℕ) → List ℕ → Outcome
expected words bytes = command_outcome (command_of words) bytes
