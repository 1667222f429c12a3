use Rattle.re_net.proofs.RunSteps.{Made}
use Rattle.re_net.proofs.runs.deliver_all.Given as goal

abbrev pub invariant-loop-delivery : goal.invariant-loop-delivery
invariant-loop-delivery l = Made l.initial.net.tree l.initial.net.bound l.deliveries l.net l.delivery-index
