use Rattle.re_step.proofs.WalkLemmas.{AreHolders}
use Rattle.re_step.proofs.walk.holders.Given as goal

abbrev pub invariant-loop-place : goal.invariant-loop-place
invariant-loop-place l = AreHolders l.labels l.sets l.next l.place l.places
