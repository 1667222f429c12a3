use Rattle.re_labels.proofs.set_row.Row.of_config.Goals as goal
use Rattle.re_labels.proofs.RowCalls.{row_of_config}
use Rattle.re_labels.specs.declared.TheConstants.{MAX_LABELS}

pub invariant_of-result : goal.invariant_of-result
invariant_of-result c = row_of_config _ MAX_LABELS c.args.config.now c.labels-label-items.result.now c.loop-label.held.items c.loop-label.label-index c.labels-label-items.ensures.config c.labels-label-items.ensures.two c.labels-label-items.ensures.six
    c.labels-label-items.ensures.labels c.loop-label.invariant c.loop-label-test.false
