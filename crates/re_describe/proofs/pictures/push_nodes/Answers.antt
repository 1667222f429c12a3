use Rattle.re_describe.specs.Pictures.{active_drawing}
use Rattle.re_describe.proofs.Growing.{counted_next}
use Rattle.re_describe.proofs.pictures.push_nodes.Goals as goal

pub loop-node-preserved : goal.loop-node-preserved
loop-node-preserved c = counted_next c.args.text.now.items (active_drawing c.args.nodes) c.loop-node.node c.loop-node.text.items c.push_active.new.text.items c.loop-node.invariant c.in_ok-push_active.ensures
