use Rattle.std.proofs.Common.{ℕ, List, take}
use Rattle.std.specs.Prelude.{Contains}
use Rattle.re_greedy.proofs.judging.first_wrong.Given as goal
use Rattle.re_greedy.specs.Partials.{IsRight}

abbrev pub invariant-loop-member : goal.invariant-loop-member
invariant-loop-member l = (labels : List ℕ) → Contains (take l.member-index l.members) labels → IsRight l.passive labels
