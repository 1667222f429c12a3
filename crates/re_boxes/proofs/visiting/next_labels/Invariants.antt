use Rattle.std.proofs.Common.{◌-◌}
use Rattle.re_boxes.proofs.NextLabels.{AreFound}
use Rattle.re_boxes.specs.Spans.{tree_of}
use Rattle.re_boxes.proofs.visiting.next_labels.Given as goal
use Rattle.re_labels.specs.declared.TheConstants.{MAX_LABELS}

abbrev pub invariant-loop-least : goal.invariant-loop-least
invariant-loop-least l = AreFound (tree_of l.constraint l.nodes) l.depth l.fn.span l.set l.least l.rest

abbrev pub decreases-loop-least : goal.decreases-loop-least
decreases-loop-least l = MAX_LABELS - l.least
