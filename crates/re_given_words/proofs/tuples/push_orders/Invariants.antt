use Rattle.std.proofs.Common.{◌≡◌, ◌++◌, map, length}
use Rattle.re_labels.specs.Configs.{image_at}
use Rattle.re_labels.specs.Orders.{placements}
use Rattle.re_given_words.proofs.tuples.push_orders.Given as goal

abbrev pub invariant-loop-order : goal.invariant-loop-order
invariant-loop-order l = l.all.items ++ map (λ places. map (image_at l.config) places) l.order-iterator ≡ l.initial.all.items ++ map (λ places. map (image_at l.config) places) (placements (length l.config))
