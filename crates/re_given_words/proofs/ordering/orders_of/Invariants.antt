use Rattle.std.proofs.Common.{◌≡◌, take}
use Rattle.re_given_words.specs.Searching.{all_orders}
use Rattle.re_given_words.proofs.ordering.orders_of.Given as goal

abbrev pub invariant-loop-row : goal.invariant-loop-row
invariant-loop-row l = l.all.items ≡ all_orders (take l.row-index l.rows)
