use Rattle.std.proofs.Common.{◌≡◌, take}
use Rattle.re_labels.proofs.set_row.Row.copy.Given as goal

abbrev pub invariant-loop-set : goal.invariant-loop-set
invariant-loop-set l = l.held.items ≡ take l.set-index l.set-items
