use Rattle.std.proofs.Common.{◌≡◌, take}
use Rattle.re_labels.proofs.constraint_table.Constraint.copy.Given as goal

abbrev pub invariant-loop-node : goal.invariant-loop-node
invariant-loop-node l = l.nodes.items ≡ take l.node-index l.node-items
