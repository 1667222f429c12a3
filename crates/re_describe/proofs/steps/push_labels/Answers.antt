use Rattle.re_describe.proofs.Growing.{counted_next}
use Rattle.re_describe.specs.Steps.{label_line}
use Rattle.re_describe.proofs.steps.push_labels.Goals as goal

pub loop-label-preserved : goal.loop-label-preserved
loop-label-preserved c =
    counted_next c.args.text.now.items (label_line c.args.names.now c.args.index.now c.args.next.now c.args.next_index.now c.args.meant.now) c.loop-label.label c.loop-label.text.items c.push_label.new.text.items
    c.loop-label.invariant c.in_ok-push_label.ensures
