-- What walks tell.
use Rattle.std.specs.Prelude.{ℕ, Bool, List}
use Rattle.re_walks.specs.Walking.{BeginningsPass, Tells, walk}

-- a walk finds the first assignment that passes, or tells that none does
abbrev pub WalkLaw : Type 0
WalkLaw = (passes : List ℕ → Bool) (n places tries : ℕ) → BeginningsPass passes n places → Tells passes n places (walk passes n places tries)
