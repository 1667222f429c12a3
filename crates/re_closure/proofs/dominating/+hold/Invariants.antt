use Rattle.std.proofs.Common.{length}
use Rattle.re_closure.proofs.Dominations.{NoneBefore}
use Rattle.re_closure.proofs.dominating.+hold.Given as goal

abbrev pub invariant-loop-place : goal.invariant-loop-place
invariant-loop-place l = NoneBefore l.tops l.first l.others l.place

abbrev pub decreases-hold : goal.decreases-hold
decreases-hold l = length l.sets.now
