use Rattle.std.proofs.Common.{length}
use Rattle.re_why.proofs.finding.+steps_refutation.Given as goal

abbrev pub decreases-steps_refutation : goal.decreases-steps_refutation
decreases-steps_refutation l = length l.steps.now
