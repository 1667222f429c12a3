use Rattle.std.proofs.Common.{length}
use Rattle.re_forest_words.proofs.greedy_lines.+push_each.Given as goal

abbrev pub decreases-push_each : goal.decreases-push_each
decreases-push_each l = length l.labels.now
