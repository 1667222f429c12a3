use Rattle.std.proofs.Common.{◌+◌, ◌*◌, length}
use Rattle.re_greedy.proofs.finding.+searching.Given as goal

abbrev pub decreases-search : goal.decreases-search
decreases-search l = 8 * l.depth + 7

abbrev pub decreases-search_without : goal.decreases-search_without
decreases-search_without l = 8 * l.depth + length l.around.now
