use Rattle.std.proofs.Common.{add-one}
use Rattle.re_laws.proofs.FastRounds.{SolvesBy-fast}
use Rattle.re_laws.proofs.bound_laws.fast_law.Goals as goal

pub returns : goal.returns
returns c = λ problem T algorithm is solves. SolvesBy-fast problem is T algorithm (rw add-one at solves)
