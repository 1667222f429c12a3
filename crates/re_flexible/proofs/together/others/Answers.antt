use Rattle.std.proofs.Common.{◌<◌, ◌∙◌, arith, length}
use Rattle.re_flexible.proofs.Standing.{others_more, others_past}
use Rattle.re_flexible.proofs.together.others.Goals as goal
use Rattle.re_flexible.proofs.together.others.Goals.{else-place-other, then-place-other}

pub loop-other-preserved : goal.loop-other-preserved
loop-other-preserved c = elim c.if-place-other.branch [
  | then-place-other w ↦ others_more c.args.labels.now c.args.place c.loop-other.other c.loop-other.set c.if-place-other.set c.loop-other.invariant w.if-place-other.true (w.set-is ∙ w.insert-set.ensures)
  | else-place-other w ↦ others_past c.args.labels.now c.args.place c.loop-other.other c.loop-other.set c.if-place-other.set c.loop-other.invariant w.if-place-other.false w.set-is
]

pub returns : goal.returns
returns c = λ y. (
  λ held. let (j, low, apart, is) = (c.loop-other.invariant y).0 held in (j, (let most = c.loop-other.auto.other-end in omega (arith, low, most)), apart, is),
  λ found. (c.loop-other.invariant y).1 (found.0, (let past = c.loop-other-test.false in let low : found.0 < length c.args.labels.now = found.1 in omega (arith, low, past)), found.2, found.3),
)
