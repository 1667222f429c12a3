use Rattle.std.proofs.Common.{◌≡◌, take, slice_set}
use Rattle.re_boxes.proofs.sets.with_set.Given as goal

abbrev pub invariant-loop-i : goal.invariant-loop-i
invariant-loop-i l = l.done.items ≡ take l.i (slice_set l.sets l.place l.set)
