use Rattle.std.proofs.Common.{arith, sym, subst}
use Rattle.re_net.specs.FiniteTrees.{FiniteTree, IsFiniteTree}
use Rattle.re_net.specs.declared.reading.Delivery.{Delivery}
use Rattle.re_net.proofs.RunSteps.{illegal_here, one_made}
use Rattle.re_net.proofs.runs.deliver_all.Goals as goal

abbrev other : Delivery
other = record { message = record { from = 0; port = 0; number = 0 }; line = 0 }

pub returns-then-message-round-clause-illegal : goal.returns-then-message-round-clause-illegal
returns-then-message-round-clause-illegal c =
    let tree : IsFiniteTree c.args.net.now.tree = subst (λ (t : FiniteTree). IsFiniteTree t) c.tree.ensures.tree c.len-nodes.ensures.tree in
    let above = c.if-message-round.true in
    let here = c.round.ensures.round in
    sym (illegal_here c.args.net.now.tree tree c.args.net.now.bound c.args.deliveries.now c.loop-delivery.net c.loop-delivery.delivery-index other c.loop-delivery.invariant c.loop-delivery-test.true (omega arith))

pub loop-delivery-preserved : goal.loop-delivery-preserved
loop-delivery-preserved c =
    let tree : IsFiniteTree c.args.net.now.tree = subst (λ (t : FiniteTree). IsFiniteTree t) c.tree.ensures.tree c.len-nodes.ensures.tree in
    let above = c.if-message-round.false in
    let here = c.round.ensures.round in
    one_made c.args.net.now.tree tree c.args.net.now.bound c.args.deliveries.now c.loop-delivery.net c.loop-delivery.delivery-index other c.loop-delivery.invariant c.loop-delivery-test.true c.deliver.new.self (omega arith)
    c.in_ok-deliver.ensures.tree c.in_ok-deliver.ensures.bound c.in_ok-deliver.ensures.delivered
