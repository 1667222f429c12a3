use Rattle.std.proofs.Common.{add-one}
use Rattle.re_given.proofs.SlowGiven.{SolvableGiven-upper}
use Rattle.re_given.proofs.upper_step_given_law.Goals as goal

pub returns : goal.returns
returns c = λ problem next input sets T is upper h. rw add-one (SolvableGiven-upper problem next input sets T is upper h)
