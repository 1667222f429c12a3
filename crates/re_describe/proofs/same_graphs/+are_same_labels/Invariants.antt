use Rattle.std.proofs.Common.{length}
use Rattle.re_describe.proofs.same_graphs.+are_same_labels.Given as goal

abbrev pub decreases-are_same_labels : goal.decreases-are_same_labels
decreases-are_same_labels l = length l.labels.now
