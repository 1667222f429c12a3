use Rattle.std.proofs.Common.{length}
use Rattle.re_graph.proofs.passing.+have_labels.Given as goal

abbrev pub decreases-have_labels : goal.decreases-have_labels
decreases-have_labels l = length l.ends.now
