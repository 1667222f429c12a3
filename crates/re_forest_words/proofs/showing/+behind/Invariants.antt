use Rattle.std.proofs.Common.{◌+◌, ◌*◌}
use Rattle.re_forest_words.proofs.showing.+behind.Given as goal

abbrev pub decreases-greedy_behind : goal.decreases-greedy_behind
decreases-greedy_behind l = 2 * l.most

abbrev pub decreases-greedy_next : goal.decreases-greedy_next
decreases-greedy_next l = 2 * l.more + 1
