use Rattle.std.proofs.Common.{◌≡◌, length}
use Rattle.std.specs.Prelude.{find}
use Rattle.re_labels.specs.Orders.{placements}
use Rattle.re_labels.specs.Rows.{covers, placed}
use Rattle.re_algo.proofs.speeding.first_order.Given as goal

abbrev pub invariant-loop-placement : goal.invariant-loop-placement
invariant-loop-placement l =
    find (λ order. covers (placed l.row order) l.others) (placements (length l.row))
    ≡ find (λ order. covers (placed l.row order) l.others) l.placement-iterator
