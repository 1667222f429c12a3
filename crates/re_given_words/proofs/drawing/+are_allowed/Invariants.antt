use Rattle.std.proofs.Common.{◌≡◌, ◌++◌, ◌∷◌, ◌-◌, [], length, take}
use Rattle.std.specs.Prelude.{Contains}
use Rattle.re_given_words.specs.Searching.{AreAllowed}
use Rattle.re_given_words.specs.declared.standing.Standing.{Standing}
use Rattle.re_given_words.proofs.drawing.+are_allowed.Given as goal

abbrev pub decreases-are_allowed : goal.decreases-are_allowed
decreases-are_allowed l = l.active.now.degree - length l.drawn.now

abbrev pub invariant-loop-other : goal.invariant-loop-other
invariant-loop-other l = (other : Standing) → Contains (take l.other-index l.standing) other → other.port ≡ length l.drawn → AreAllowed l.active l.standing l.new (l.drawn ++ other.set ∷ [])
