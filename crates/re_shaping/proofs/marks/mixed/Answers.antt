use Rattle.std.proofs.Common.{refl}
use Rattle.re_shaping.specs.Mixing.{mixed}
use Rattle.re_shaping.proofs.marks.mixed.Goals as goal

pub returns : goal.returns
unfolding mixed
returns c = refl
