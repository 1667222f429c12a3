use Rattle.std.proofs.Common.{◌*◌, ◌+◌}
use Rattle.re_judging.proofs.judging.+parts.Given as goal

abbrev pub decreases-go_on : goal.decreases-go_on
decreases-go_on l = 2 * l.left

abbrev pub decreases-judged_by : goal.decreases-judged_by
decreases-judged_by l = 2 * l.left + 1
