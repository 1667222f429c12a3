-- What a command may answer whose answer comes of a search.
use Rattle.std.specs.Prelude.{◌≡◌, ◌<◌, ◌≤◌, ℕ, List, length}
use Rattle.re_io.specs.declared.read.TheConstants.{MAX_BYTES}
use Rattle.re_frame.specs.Outcomes.{Outcome, too_long}

-- the limit of the input comes before all else that the input holds; within it, the outcome is one that the command may have
pub record MayAnswer (may : List ℕ → Outcome → Type 0) (bytes : List ℕ) (outcome : Outcome) : Type 0 where
  pub beyond : MAX_BYTES < length bytes → outcome ≡ too_long
  pub within : length bytes ≤ MAX_BYTES → may bytes outcome
