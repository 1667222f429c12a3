use Rattle.std.proofs.Common.{subst, ℕ, IfOk}
use Rattle.re_net.specs.FiniteTrees.{FiniteTree}
use Rattle.re_net.specs.Runs.{Comes}
use Rattle.re_net.proofs.runs.run_net.Goals as goal

pub returns-clause-run : goal.returns-clause-run
returns-clause-run g c =
    let net = c.in_ok-net.net in
    let answer = g.R.Rule.answer c.args.rule.now in
    subst (λ (n : ℕ). IfOk c.run_on.result (Comes c.args.tree n c.args.deliveries.now answer)) c.in_ok-net.ensures.bound
    (subst (λ (t : FiniteTree). IfOk c.run_on.result (Comes t net.bound c.args.deliveries.now answer)) c.in_ok-net.ensures.tree c.run_on.ensures.run)
