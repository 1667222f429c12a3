use Rattle.re_closure.proofs.NeededSets.{IsOnce}
use Rattle.re_closure.proofs.families.without_repeats.Given as goal

abbrev pub invariant-loop-place : goal.invariant-loop-place
invariant-loop-place l = IsOnce l.sets l.place l.once.items
