use Rattle.re_given.proofs.MappingGiven.{SolvableGiven-mapped}
use Rattle.re_given.proofs.mapping_given_law.Goals as goal

pub returns : goal.returns
returns c = SolvableGiven-mapped
