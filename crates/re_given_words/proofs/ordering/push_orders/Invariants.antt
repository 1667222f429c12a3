use Rattle.std.proofs.Common.{◌≡◌, ◌++◌, map}
use Rattle.re_labels.specs.Rows.{placed}
use Rattle.re_given_words.specs.Searching.{orders_of}
use Rattle.re_given_words.proofs.ordering.push_orders.Given as goal

abbrev pub invariant-loop-order : goal.invariant-loop-order
invariant-loop-order l = l.all.items ++ map (placed l.row) l.order-iterator ≡ l.initial.all.items ++ orders_of l.row
