-- What a run takes from its source, and what it leaves in its sink.
use Rattle.std.specs.Prelude.{◌≡◌, ◌≢◌, ◌≤◌, ℕ, Bool, List, [], length, Option, Some, IsTrue}
use Rattle.std.specs.Io.KnownBytes.{Appends, Consumes}
use Rattle.re_io.specs.declared.read.TheConstants.{MAX_BYTES}
use Rattle.re_io.specs.Sink.{AppendsPrefix}
use Rattle.re_frame.specs.Outcomes.{Outcome}
use Rattle.re_frame.specs.declared.status.Status.{Status}
use Rattle.re_frame.specs.declared.status.Status.TheVariants.{BadWords, No}

-- the bytes that were taken are no more than an input may have
abbrev pub TakesInput : Option (List ℕ) → Option (List ℕ) → Type 0
TakesInput before after = (bytes : List ℕ) × Consumes before after bytes × (length bytes ≤ MAX_BYTES)

-- the bytes that a source tells are these, where any are read
abbrev pub Tells : Bool → Option (List ℕ) → List ℕ → Type 0
Tells reading left bytes = IsTrue reading → left ≡ Some bytes

-- what a command may answer: it is one, and No only where it judges
abbrev pub MaySay : Status → Bool → Type 0
MaySay BadWords judging = ⊥
MaySay No judging = IsTrue judging
MaySay status judging = Unit {0}

-- the status is that of the outcome, and known bytes grow by exactly its text
pub record Answers (result : Status) (old new : Option (List ℕ)) (outcome : Outcome) : Type 0 where
  pub status : result ≡ outcome.status
  pub text : Appends old new outcome.text

-- there is a text, and known bytes grow by some first bytes of it
pub record StopsWithin (old new : Option (List ℕ)) (text : List ℕ) : Type 0 where
  pub some_text : text ≢ []
  pub front : AppendsPrefix old new text
