use Rattle.re_shaping.proofs.NewNames.{by_label-more}
use Rattle.re_shaping.proofs.naming.by_label.Goals as goal

pub loop-label-preserved : goal.loop-label-preserved
loop-label-preserved c = by_label-more c.loop-label.label c.loop-entry.entry-index c.args.entries.now c.loop-label.ordered.items c.loop-entry.ordered.items c.loop-entry-test.false c.loop-label.invariant c.loop-entry.invariant
