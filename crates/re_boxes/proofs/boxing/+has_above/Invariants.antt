use Rattle.std.proofs.Common.{◌-◌}
use Rattle.re_boxes.proofs.boxing.+has_above.Given as goal
use Rattle.re_labels.specs.declared.TheConstants.{MAX_LABELS}

abbrev pub decreases-has_above : goal.decreases-has_above
decreases-has_above l = MAX_LABELS - l.label
