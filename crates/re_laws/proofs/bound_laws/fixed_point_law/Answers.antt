use Rattle.std.proofs.Common.{add-one}
use Rattle.re_laws.proofs.ChainRounds.{fixed_point}
use Rattle.re_laws.proofs.bound_laws.fixed_point_law.Goals as goal

pub returns : goal.returns
returns c = λ first middle last back k T image is to_middle round renamed not_zero h. fixed_point is to_middle (rw add-one at round) renamed not_zero T h
