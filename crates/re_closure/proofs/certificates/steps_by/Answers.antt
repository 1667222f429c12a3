use Rattle.std.proofs.Common.{◌∙◌}
use Rattle.re_closure.proofs.Joined.{steps_made}
use Rattle.re_closure.proofs.certificates.steps_by.Goals as goal

pub returns : goal.returns
returns c =
    steps_made c.args.by_rows c.args.chain.now c.args.first c.args.closure c.in_ok-steps.steps.items c.push.new.self.items c.push-2.new.self.items c.push-3.new.self.items c.in_ok-out.out c.in_ok-back.back
    (c.in_ok-steps.ensures ∙ c.steps.ensures.steps) c.in_ok-out.ensures c.in_ok-back.ensures c.in_ok-push.ensures.items c.in_ok-push-2.ensures.items c.in_ok-push-3.ensures.items
