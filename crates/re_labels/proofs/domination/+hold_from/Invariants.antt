use Rattle.std.proofs.Common.{◌≡◌, ◌+◌, ◌-◌, drop, false, length, take}
use Rattle.std.specs.List.{list_any}
use Rattle.re_labels.specs.Orders.{splits}
use Rattle.re_labels.proofs.Dominating.{branch}
use Rattle.re_labels.proofs.domination.+hold_from.Given as goal

abbrev pub invariant-loop-k : goal.invariant-loop-k
invariant-loop-k l = list_any (branch l.sets (length l.places - 1) l.other (drop (l.index + 1) l.others)) (take l.k (splits l.places)) ≡ false

abbrev pub decreases-hold_from : goal.decreases-hold_from
decreases-hold_from l = length l.places.now
