use Rattle.std.proofs.Common.{◌∙◌, [], sym}
use Rattle.re_net.specs.Runs.{messages_of, standings_of}
use Rattle.re_net.proofs.RunSteps.{standings_fold}
use Rattle.re_net.proofs.runs.run_on.Goals as goal

pub returns-clause-run : goal.returns-clause-run
returns-clause-run g c =
    let net = c.args.net.now in
    let tree = c.in_ok-line.ensures.tree in
    let bound = c.in_ok-line.ensures.bound in
    let delivered = c.in_ok-line.ensures.delivered c.in_default.is in (
      sym c.in_ok-line.ensures.illegal ∙ c.in_default.is,
      c.in_ok-standings.ensures.standings ∙ (λ k. standings_of (tree k) (bound k) (delivered k) (g.R.Rule.answer c.args.rule.now))
          ∙ standings_fold net.tree c.deliver_all.ensures.built net.bound (messages_of c.args.deliveries.now) (g.R.Rule.answer c.args.rule.now),
    )
