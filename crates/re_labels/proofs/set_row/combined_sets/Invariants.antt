use Rattle.std.proofs.Common.{◌≡◌, take}
use Rattle.re_labels.proofs.set_row.combined_sets.Given as goal
use Rattle.re_labels.specs.Rows.{combined, placed}

abbrev pub invariant-loop-i : goal.invariant-loop-i
invariant-loop-i l = l.done.items ≡ take l.i (combined l.place l.sets (placed l.others l.order))
