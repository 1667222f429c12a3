use Rattle.std.proofs.Common.{◌≡◌, length}
use Rattle.re_labels.proofs.places.order_at.Given as goal
use Rattle.re_labels.proofs.OrdersAt.{ChosenSoFar}
use Rattle.re_labels.specs.Lists.{count_from}

abbrev pub invariant-loop-place : goal.invariant-loop-place
invariant-loop-place l = l.left.items ≡ count_from 0 l.place

abbrev pub invariant-loop-left : goal.invariant-loop-left
invariant-loop-left l = ChosenSoFar l.count l.index l.places.items l.left.items l.rest

abbrev pub decreases-loop-left : goal.decreases-loop-left
decreases-loop-left l = length l.left.items
