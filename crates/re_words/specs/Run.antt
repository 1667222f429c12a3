-- What a run reads, and what it leaves in its sink.
use Rattle.std.specs.Prelude.{◌≡◌, Option, None, Some}
use Rattle.re_frame.specs.declared.status.Status.{Status}
use Rattle.re_words.specs.Command.{judges}
use Rattle.re_words.specs.declared.command.Command.{Command}
use Rattle.re_frame.specs.declared.status.Status.TheVariants.{BadWords}
use Rattle.re_frame.specs.Runs.{MaySay}

-- BadWords where there is no command, and else what that may answer
abbrev pub Says : Status → Option Command → Type 0
Says status None = status ≡ BadWords
Says status (Some command) = MaySay status (judges command)
