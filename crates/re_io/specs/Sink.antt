-- What a call of a sink's `put` did.
use Rattle.std.specs.Prelude.{ℕ, ◌≤◌, List, take, Result, MatchResult, IsErrOf, Option}
use Rattle.std.specs.Io.KnownBytes.{Appends, Keeps}
use Rattle.re_io.specs.Faults.{Rose}
use Rattle.re_io.specs.declared.sink.SinkFault.{SinkFault}
use Rattle.re_io.specs.declared.sink.SinkFault.TheVariants.{Failed, NoMemory}

-- known bytes grow by some first bytes of the piece
abbrev pub AppendsPrefix : Option (List ℕ) → Option (List ℕ) → List ℕ → Type 0
AppendsPrefix old new piece = (n : ℕ) × Appends old new (take n piece)

-- what a refused piece left
abbrev pub LeavesPiece : Option (List ℕ) → Option (List ℕ) → List ℕ → SinkFault → Type 0
LeavesPiece old new piece Failed = AppendsPrefix old new piece
LeavesPiece old new piece NoMemory = Keeps old new

-- the whole piece at `Ok`, some first bytes of it at `Failed`, nothing at `NoMemory`
abbrev pub PutAppends : Option (List ℕ) → Option (List ℕ) → Result Unit SinkFault → List ℕ → Type 0
PutAppends old new result piece = MatchResult result (λ _. Appends old new piece) (LeavesPiece old new piece)

-- the count of faults has not fallen, and at `Failed` it has risen
pub record HasPutCause {T : Type 0} (before now : ℕ) (result : Result T SinkFault) : Type 0 where
  pub later : before ≤ now
  pub failed : IsErrOf result Failed → Rose before now
