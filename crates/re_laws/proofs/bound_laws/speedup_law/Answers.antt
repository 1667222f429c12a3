use Rattle.std.proofs.Common.{add-one}
use Rattle.re_laws.proofs.FastRounds.{Solvable-derived}
use Rattle.re_laws.proofs.SlowRounds.{Solvable-from_derived}
use Rattle.re_laws.proofs.bound_laws.speedup_law.Goals as goal

pub returns : goal.returns
returns c = λ problem T is. rw add-one (Solvable-derived problem T is, Solvable-from_derived problem T)
