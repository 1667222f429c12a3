use Rattle.re_shaping.proofs.DerivedRelaxations.{derived_relaxation}
use Rattle.re_shaping.proofs.derived_relaxation_law.Goals as goal

pub returns : goal.returns
returns c = derived_relaxation
