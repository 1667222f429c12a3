use Rattle.std.proofs.Common.{◌-◌}
use Rattle.re_boxes.proofs.boxing.+up_above.Given as goal
use Rattle.re_labels.specs.declared.TheConstants.{MAX_LABELS}

abbrev pub decreases-up_above : goal.decreases-up_above
decreases-up_above l = MAX_LABELS - l.label
