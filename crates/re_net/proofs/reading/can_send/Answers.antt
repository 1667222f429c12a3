use Rattle.std.proofs.Common.{arith}
use Rattle.re_labels.specs.Sides.{degree_of}
use Rattle.re_net.specs.FiniteTrees.{most_ports}
use Rattle.std.proofs.Common.{◌≡◌, ◌∙◌}
use Rattle.re_net.proofs.Tested.{not_sent}
use Rattle.re_net.proofs.reading.can_send.Goals as goal

pub returns-then-port-from-clause-test : goal.returns-then-port-from-clause-test
returns-then-port-from-clause-test c =
    let above = c.if-port-from.true in
    let wide = c.from.ensures in
    let most : c.of-most.result ≡ most_ports c.args.tree.now c.args.from = c.of-most.ensures ∙ (λ i. degree_of (c.degrees-degrees.ensures i) (c.side.ensures i)) in
    not_sent c.args.tree.now c.len.ensures.tree c.args.bound c.args.from c.args.port c.args.number (omega arith)
