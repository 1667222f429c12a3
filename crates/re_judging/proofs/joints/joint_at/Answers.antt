use Rattle.std.proofs.Common.{arith, refl}
use Rattle.re_judging.proofs.joints.joint_at.Goals as goal

pub lines-init : goal.lines-init
lines-init c = (refl, omega arith, λ some. omega arith)
