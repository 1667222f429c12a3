use Rattle.std.proofs.Common.{◌≡◌, ◌++◌}
use Rattle.std.specs.List.{flat_map}
use Rattle.re_labels.specs.Lists.{count_from}
use Rattle.re_describe.specs.GraphLines.{node_line}
use Rattle.re_describe.proofs.graph_lines.push_nodes.Given as goal

abbrev pub invariant-loop-node : goal.invariant-loop-node
invariant-loop-node l = l.text.items ≡ l.fn.text.items ++ flat_map (node_line l.passive l.degree) (count_from 0 l.node)
