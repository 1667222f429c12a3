-- Lines of a source: what a reader of lines holds, and what its calls give.
use Rattle.std.specs.Prelude.{◌≡◌, ℕ, ◌+◌, ◌<◌, Bool, true, false, List, [], ◌∷◌, ◌++◌, length, Option, None, Some, Contains, if◌then◌else◌}
use Rattle.std.specs.Io.KnownBytes.{Consumes, IsAtEnd}

-- a line: its bytes without the line feed, and whether the line feed was there
pub record LineText : Type 0 where
  pub text : List ℕ
  pub ended : Bool

-- the bytes of a line, with its line feed where it has one
abbrev pub line_bytes : LineText → List ℕ
line_bytes line = if line.ended then line.text ++ 10 ∷ [] else line.text

-- how many bytes were taken from the source over all calls, those of them that were not yet given, and whether no more is read
pub record LinesHeld : Type 0 where
  pub taken : ℕ
  pub pending : List ℕ
  pub stopped : Bool

-- these bytes were taken from the source
pub record Takes (old new : LinesHeld) (before after : Option (List ℕ)) (bytes : List ℕ) : Type 0 where
  pub consumed : Consumes before after bytes
  pub count : new.taken ≡ old.taken + length bytes

-- the line is the input up to its first line feed, or all of it, where it isn't empty and the source is at its end
pub record IsFirstLine (input : List ℕ) (line : LineText) (rest : List ℕ) (after : Option (List ℕ)) : Type 0 where
  pub bytes : input ≡ line_bytes line ++ rest
  pub whole : Contains line.text 10 → ⊥
  pub filled : line.ended ≡ false → line.text ≡ [] → ⊥
  pub last : line.ended ≡ false → (rest ≡ []) × IsAtEnd after

-- the first line of the input, or None at its end
abbrev pub GivesLine : List ℕ → Option LineText → List ℕ → Option (List ℕ) → Type 0
GivesLine input None rest after = (input ≡ []) × (rest ≡ []) × IsAtEnd after
GivesLine input (Some line) rest after = IsFirstLine input line rest after

-- ---- parts of a call
-- what was moved behind the text: the pending bytes up to a line feed, or all of them
abbrev pub MovesUpTo : Bool → List ℕ → List ℕ → List ℕ → Type 0
MovesUpTo true pending piece rest = pending ≡ piece ++ (10 ∷ rest)
MovesUpTo false pending piece rest = (pending ≡ piece) × (rest ≡ [])

pub record GivesPart (pending before : List ℕ) (found : Bool) (after rest : List ℕ) : Type 0 where
  pub piece : List ℕ
  pub text : after ≡ before ++ piece
  pub whole : Contains piece 10 → ⊥
  pub moved : MovesUpTo found pending piece rest

-- the bytes taken are pending, or there were none at the end of the source
abbrev pub Refills : Bool → List ℕ → List ℕ → Option (List ℕ) → Type 0
Refills true bytes pending after = (pending ≡ bytes) × (0 < length bytes)
Refills false bytes pending after = (bytes ≡ []) × (pending ≡ []) × IsAtEnd after
