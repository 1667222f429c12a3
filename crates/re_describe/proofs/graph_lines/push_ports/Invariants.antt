use Rattle.std.proofs.Common.{◌≡◌, ◌+◌, ◌++◌}
use Rattle.std.specs.List.{flat_map}
use Rattle.re_labels.specs.Lists.{count_from}
use Rattle.re_describe.specs.GraphLines.{port_text}
use Rattle.re_describe.proofs.graph_lines.push_ports.Given as goal

abbrev pub invariant-loop-place : goal.invariant-loop-place
invariant-loop-place l = l.text.items ≡ l.fn.text.items ++ flat_map (λ place. port_text l.passive l.node (place + 1)) (count_from 0 l.place)
