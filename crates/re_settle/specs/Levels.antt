-- What the levels of labels of a problem tell.
use Rattle.std.specs.Prelude.{ℕ, ◌==◌, nat_le, ◌&&◌, ◌||◌, if◌then◌else◌, None, Option, Some}
use Rattle.re_evidence.specs.OnForests.{most_of}
use Rattle.re_evidence.specs.declared.types.Most.{Most}
use Rattle.re_flexible.specs.declared.levels.Flexibility.{Flexibility}
use Rattle.re_flexible.specs.declared.levels.Flexibility.TheVariants as flexibility
use Rattle.re_problem.specs.Problems.{Problem}
use Rattle.re_settle.specs.declared.types.Further.{Further}
use Rattle.re_settle.specs.declared.types.Further.TheVariants as further
use Rattle.re_settle.specs.declared.types.Settled.{Settled}
use Rattle.re_settle.specs.declared.types.Settled.TheVariants as settled
use Rattle.re_settle.specs.declared.types.Way.TheVariants.{Flexible}

-- what they tell before any search: where no level has a label there is no solution, and where no set is flexible no number of rounds is enough
abbrev pub known_ahead : Flexibility → Option Settled
known_ahead (flexibility.Flexible set) = None
known_ahead (flexibility.Length count) = Some (settled.Never Flexible)
known_ahead flexibility.NoSolution = Some settled.Unsolvable

-- and what they tell besides, where one level is all: that it takes the order of N
abbrev pub further_ahead : Flexibility → Option Further
further_ahead (flexibility.Flexible set) = None
further_ahead (flexibility.Length count) = Some (if count == 1 then further.Linear else further.Nothing)
further_ahead flexibility.NoSolution = Some further.Nothing

-- what a flexible set tells
abbrev pub above_of : Problem → Flexibility → Option Most
above_of problem (flexibility.Flexible set) = Some (most_of problem)
above_of problem (flexibility.Length count) = None
above_of problem flexibility.NoSolution = None

-- the number k of levels, where the literature tells the order N^(1/k) by it, which isn't claimed here: two at least, and the nodes of one side have two
-- neighbours
abbrev pub length_of : Problem → Flexibility → Option ℕ
length_of problem (flexibility.Flexible set) = None
length_of problem (flexibility.Length count) = if nat_le 2 count && (problem.active.degree == 2 || problem.passive.degree == 2) then Some count else None
length_of problem flexibility.NoSolution = None
