use Rattle.std.proofs.Common.{add-one}
use Rattle.re_laws.proofs.SlowRounds.{SolvesBy-upper}
use Rattle.re_laws.proofs.bound_laws.slow_law.Goals as goal

pub returns : goal.returns
returns c = λ problem next sets T algorithm upper solves. rw add-one (SolvesBy-upper problem next sets T algorithm upper solves)
