use Rattle.re_check.proofs.LabelBounds.{below_last, none_below}
use Rattle.re_check.proofs.judging.is_below.Goals as goal

pub returns-then-labels-eq0 : goal.returns-then-labels-eq0
returns-then-labels-eq0 c = none_below c.args.set c.args.labels c.is_empty.result c.is_empty.ensures c.if-labels-eq0.true

pub returns : goal.returns
returns c = below_last c.args.set c.args.labels c.after.result c.is_none.result c.number-number.ensures.set c.if-labels-eq0.false c.after.ensures c.is_none.ensures
