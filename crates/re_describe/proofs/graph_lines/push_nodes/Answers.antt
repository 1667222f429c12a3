use Rattle.re_describe.specs.GraphLines.{node_line}
use Rattle.re_describe.proofs.Growing.{counted_next}
use Rattle.re_describe.proofs.graph_lines.push_nodes.Goals as goal

pub loop-node-preserved : goal.loop-node-preserved
loop-node-preserved c = counted_next c.args.text.now.items (node_line c.args.passive.now c.args.degree) c.loop-node.node c.loop-node.text.items c.push_node.new.text.items c.loop-node.invariant c.in_ok-push_node.ensures
