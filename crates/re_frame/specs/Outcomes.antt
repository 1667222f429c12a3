-- The status of a run, and the text that goes with it.
use Rattle.std.specs.Prelude.{ℕ, List, ◌++◌, codes, if◌then◌else◌, length, nat_lt}
use Rattle.std.specs.Fmt.{decimal}
use Rattle.re_io.specs.declared.read.TheConstants.{MAX_BYTES}
use Rattle.re_frame.specs.declared.output.Output.{Output}
use Rattle.re_frame.specs.declared.status.Status.{Status}
use Rattle.re_frame.specs.declared.status.Status.TheVariants as status
use Rattle.re_frame.specs.declared.status.Answer.{Answer}
use Rattle.re_frame.specs.declared.status.Answer.TheVariants.{Done, No, BadWords, BadInput, Limit}

-- a status, and the whole text that is written with it
pub record Outcome : Type 0 where
  pub status : Status
  pub text : List ℕ

abbrev pub status_of : Answer → Status
status_of Done = status.Done
status_of No = status.No
status_of BadWords = status.BadWords
status_of BadInput = status.BadInput
status_of Limit = status.Limit

-- the exit code of each status
abbrev pub code_of : Status → ℕ
code_of status.Done = 0
code_of status.No = 1
code_of status.BadWords = 2
code_of status.BadInput = 3
code_of status.Limit = 4
code_of status.ReadFault = 5
code_of status.WriteFault = 6
code_of status.NoMemory = 7

-- the statuses that the words and the bytes alone decide
abbrev pub IsAnswer : Status → Type 0
IsAnswer status.ReadFault = ⊥
IsAnswer status.WriteFault = ⊥
IsAnswer status.NoMemory = ⊥
IsAnswer _ = Unit {0}

-- the outcome that an output stands for
abbrev pub outcome_of : Output → Outcome
outcome_of output = record { status = status_of output.answer; text = output.text.items }

abbrev pub done : List ℕ → Outcome
done text = record { status = status.Done; text = text }

abbrev pub refused : List ℕ → Outcome
refused text = record { status = status.No; text = text }

abbrev pub limit : List ℕ → Outcome
limit text = record { status = status.Limit; text = text }

-- more than this number of what the unit counts
abbrev pub limit_of : ℕ → List ℕ → Outcome
limit_of number unit = limit (codes "limit: more than " ++ decimal number ++ codes " " ++ unit ++ codes "\n")

abbrev pub too_long : Outcome
too_long = limit (codes "limit: more than 16777216 bytes\n")

-- the limit of the input comes before all else that the input holds
unfoldable pub within_limit : (List ℕ → Outcome) → List ℕ → Outcome
within_limit outcome bytes = if nat_lt MAX_BYTES (length bytes) then too_long else outcome bytes
