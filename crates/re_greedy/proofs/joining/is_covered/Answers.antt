use Rattle.std.proofs.Common.{refl, below_more}
use Rattle.re_greedy.proofs.HardestRows.{covered_here, not_here}
use Rattle.re_greedy.proofs.joining.is_covered.Goals as goal

pub returns-then-within : goal.returns-then-within
returns-then-within c = (
  λ yes. covered_here c.args.sets.now c.args.set c.other-item.result c.loop-other.other-index c.within.result c.loop-other-test.true c.other-item.is c.within.ensures c.if-within.true,
  λ covered. refl,
)

pub loop-other-preserved : goal.loop-other-preserved
loop-other-preserved c =
    below_more _ _ c.loop-other.invariant (not_here c.args.sets.now c.args.set c.other-item.result c.loop-other.other-index c.within.result c.loop-other-test.true c.other-item.is c.within.ensures c.if-within.false)
