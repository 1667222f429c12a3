use Rattle.std.proofs.Common.{length, ◌+◌, ◌-◌}
use Rattle.re_problem.proofs.zero.+always_fits.Given as goal

abbrev pub decreases-always_fits : goal.decreases-always_fits
decreases-always_fits l = (l.constraint.now.degree - length l.drawn.now.items) + length l.labels.now
