use Rattle.std.proofs.Common.{◌≡◌, ◌++◌}
use Rattle.std.specs.List.{flat_map}
use Rattle.re_given_words.proofs.LabelOrders.{orders_in}
use Rattle.re_given_words.proofs.asking.orders_of.Given as goal

abbrev pub invariant-loop-config : goal.invariant-loop-config
invariant-loop-config l = l.orders.items ++ flat_map orders_in l.config-iterator ≡ flat_map orders_in l.constraint.configs
