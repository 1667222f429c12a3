use Rattle.std.proofs.Common.{◌+◌}
use Rattle.re_describe.specs.GraphLines.{port_text}
use Rattle.re_describe.proofs.Growing.{counted_next}
use Rattle.re_describe.proofs.graph_lines.push_ports.Goals as goal

pub loop-place-preserved : goal.loop-place-preserved
loop-place-preserved c = counted_next c.args.text.now.items (λ place. port_text c.args.passive.now c.args.node (place + 1)) c.loop-place.place c.loop-place.text.items c.push_port.new.text.items c.loop-place.invariant c.in_ok-push_port.ensures
