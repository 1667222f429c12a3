use Rattle.std.proofs.Common.{arith}
use Rattle.re_given.proofs.Colourings.{fixed_point_coloured}
use Rattle.re_given.proofs.fixed_point_coloured_law.Goals as goal

pub returns : goal.returns
returns c = λ first middle last back k n c T image is to_middle round relaxed not_zero few enough many h. fixed_point_coloured is to_middle round (omega arith) relaxed not_zero few enough many T h
