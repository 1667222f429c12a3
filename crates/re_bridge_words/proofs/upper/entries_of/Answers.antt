use Rattle.std.proofs.Common.{arith}
use Rattle.re_bridge_words.proofs.UpperSteps.{one-entry}
use Rattle.re_bridge_words.proofs.upper.entries_of.Goals as goal

pub loop-label-preserved : goal.loop-label-preserved
loop-label-preserved c = one-entry c.args.sets.now c.loop-label.label c.index-sets-label.result (omega (arith, c.loop-label-test.true)) c.index-sets-label.is c.in_ok-push.ensures.items c.loop-label.invariant
