use Rattle.re_closure.proofs.Joined.{pairs_more}
use Rattle.re_closure.proofs.certificates.identity.Goals as goal

pub loop-label-preserved : goal.loop-label-preserved
loop-label-preserved c = pairs_more c.loop-label.label c.loop-label.pairs.items c.push.new.self.items c.loop-label.invariant c.in_ok-push.ensures.items
