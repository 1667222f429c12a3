use Rattle.std.proofs.Common.{sym, ◌∙◌}
use Rattle.re_check.proofs.AllowedImages.{over-kept, over-more}
use Rattle.re_check.proofs.allowed_images.labels_over.Goals as goal
use Rattle.re_check.proofs.allowed_images.labels_over.Goals.{else-has, then-has}

pub loop-entry-preserved : goal.loop-entry-preserved
loop-entry-preserved c = elim c.if-has.branch [
  | then-has w ↦
      over-more c.args.entries.now c.args.label c.loop-entry.entry-index c.entry-item.result c.entry.inside.set c.loop-entry.over c.if-has.over c.entry.inside.label c.loop-entry-test.true c.entry-item.is c.entry.view_is
      (sym c.has.ensures ∙ w.if-has.true) c.loop-entry.invariant (w.over-is ∙ w.insert-over.ensures)
  | else-has w ↦
      w.over-is ∙ over-kept c.args.entries.now c.args.label c.loop-entry.entry-index c.entry-item.result c.entry.inside.set c.loop-entry.over c.entry.inside.label c.loop-entry-test.true c.entry-item.is c.entry.view_is
      (sym c.has.ensures ∙ w.if-has.false) c.loop-entry.invariant
]
