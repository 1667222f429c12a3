use Rattle.std.proofs.Common.{length}
use Rattle.re_chains.proofs.over_chains.+refusal_from.Given as goal

abbrev pub decreases-refusal_from : goal.decreases-refusal_from
decreases-refusal_from l = length l.steps.now
