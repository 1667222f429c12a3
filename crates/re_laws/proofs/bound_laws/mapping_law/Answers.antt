use Rattle.re_laws.proofs.Mapping.{Solvable-mapped}
use Rattle.re_laws.proofs.bound_laws.mapping_law.Goals as goal

pub returns : goal.returns
returns c = Solvable-mapped
