use Rattle.std.proofs.Common.{◌≡◌, take, slice_set}
use Rattle.re_boxes.proofs.sets.with_label.Given as goal

abbrev pub invariant-loop-i : goal.invariant-loop-i
invariant-loop-i l = l.done.items ≡ take l.i (slice_set l.labels l.place l.label)
