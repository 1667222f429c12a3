use Rattle.std.proofs.Common.{◌+◌, ◌-◌, ◌*◌}
use Rattle.re_step.proofs.walk.+walk.Given as goal

abbrev pub decreases-walk : goal.decreases-walk
decreases-walk l = l.size * 1000 + l.count * 2

abbrev pub decreases-walk_on : goal.decreases-walk_on
decreases-walk_on l = l.size * 1000 + l.count * 2 - 1
