use Rattle.re_walks.proofs.Raising.{raised-on, raised-up}
use Rattle.re_walks.proofs.following.raise.Goals as goal

pub returns-then-label-n : goal.returns-then-label-n
returns-then-label-n c = raised-up c.args.n c.in-Some.label c.loop-label.labels.items c.pop.new.self.items c.push.new.self.items c.args.labels.now.items c.loop-label.invariant c.in-Some.ensures.items c.if-label-n.true c.in_ok-push.ensures.items

pub loop-label-preserved : goal.loop-label-preserved
loop-label-preserved c = raised-on c.args.n c.in-Some.label c.loop-label.labels.items c.pop.new.self.items c.args.labels.now.items c.loop-label.invariant c.in-Some.ensures.items c.if-label-n.false
