use Rattle.std.proofs.Common.{◌≡◌, ◌++◌}
use Rattle.std.specs.List.{flat_map}
use Rattle.re_labels.specs.Lists.{count_from}
use Rattle.re_describe.specs.Pictures.{active_drawing}
use Rattle.re_describe.proofs.pictures.push_nodes.Given as goal

abbrev pub invariant-loop-node : goal.invariant-loop-node
invariant-loop-node l = l.text.items ≡ l.fn.text.items ++ flat_map (active_drawing l.nodes) (count_from 0 l.node)
