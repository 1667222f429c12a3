use Rattle.re_walks.proofs.LabelsBelow.{below-more}
use Rattle.re_walks.proofs.begun.labels_below.Goals as goal

pub loop-label-preserved : goal.loop-label-preserved
loop-label-preserved c = below-more c.loop-label.label c.loop-label.set c.insert-set.result c.loop-label.invariant c.insert-set.ensures
